use Rattle.std.proofs.Common.{◌≡◌, ◌∙◌, None, Ok, ap, arith}
use Rattle.sq_outline.specs.WindowsSearch.{thinned}
use Rattle.sq_outline.proofs.WindowsFinding.{first_of, some_site, none_few, none_links}
use Rattle.sq_outline.proofs.windows.found.found_with_sites.Goals as goal

pub returns-then-places-lt2-clause-none : goal.returns-then-places-lt2-clause-none
returns-then-places-lt2-clause-none c = λ e first link saving sites.
    none_few c.args.graph.now.graph c.args.n c.args.places.now (let least = c.requires.least in omega (arith, least)) c.if-places-lt2.true first link saving sites

pub returns-in_default-clause-none : goal.returns-in_default-clause-none
returns-in_default-clause-none c = λ e first link saving sites.
    let is : c.as_slice-sites.result.now ≡ thinned c.args.n None c.args.places.now = c.as_slice-sites.ensures.value ∙ c.in_ok-occurrences.ensures in
    let parts = first_of c.as_slice-sites.result.now _ (some_site c.as_slice-sites.result.now c.from.result c.from-come.result c.if-gone-come.false) in
    none_links c.args.graph.now.graph c.args.n c.args.places.now c.as_slice-sites.result.now parts.0 _ c.items_at-window.result.now is parts.1 c.items_at-window.ensures (c.link_for.ensures.none (c.in_ok-link.was ∙ ap Ok c.in_default.is)) first link saving sites
