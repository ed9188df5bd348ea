use Rattle.std.proofs.Common.{◌≡◌, List, None, sym, ◌∙◌, subst}
use Rattle.std.specs.List.{All}
use Rattle.sq_outline.specs.declared.sites.Site.{Site}
use Rattle.sq_outline.specs.Sites.{IsPlace}
use Rattle.sq_outline.proofs.WindowsFinding.{sites_there, sites_small, ends_there, some_made, none_made}
use Rattle.sq_outline.proofs.windows.found.link_for.Goals as goal

pub are_whole-requires : goal.are_whole-requires
are_whole-requires c = sites_there c.args.graph.now.graph c.args.window.now c.args.sites.now c.requires.sites

pub behind-requires : goal.behind-requires
behind-requires c = sites_small c.args.graph.now.graph c.args.window.now c.args.sites.now c.requires.sites c.learn.ensures.few

pub find_link-requires-clause-places : goal.find_link-requires-clause-places
find_link-requires-clause-places c =
    subst (λ (ps : List Site). All (IsPlace c.args.graph.now.graph) ps) (sym (c.deref.ensures.value ∙ c.in_ok-ends.ensures)) (ends_there c.args.graph.now.graph c.args.window.now c.args.sites.now c.requires.sites)

pub returns-clause-some : goal.returns-clause-some
returns-clause-some c =
    some_made c.args.graph.now.graph c.args.window.now c.args.sites.now c.deref.result.now c.find_link.result (c.deref.ensures.value ∙ c.in_ok-ends.ensures) (c.are_plain.ensures.0 c.if-not-are_plain.false)
    (λ all. let yes = c.are_whole.ensures.1 all in let no = c.if-are_whole.false in absurd (cc)) c.find_link.ensures

pub returns-clause-none : goal.returns-clause-none
returns-clause-none c = λ e.
    let none : c.find_link.result ≡ None = cc in
    none_made c.args.graph.now.graph c.args.window.now c.args.sites.now c.deref.result.now c.find_link.result (c.deref.ensures.value ∙ c.in_ok-ends.ensures) (c.are_plain.ensures.0 c.if-not-are_plain.false)
    (λ all. let yes = c.are_whole.ensures.1 all in let no = c.if-are_whole.false in absurd (cc)) c.find_link.ensures none
