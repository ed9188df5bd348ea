use Rattle.std.proofs.Common.{◌∙◌, None, Ok, sym, ap, length, length-append, arith}
use Rattle.sq_graph.specs.Blocks.{items_of_blocks, items_of_bodies}
use Rattle.sq_outline.specs.WindowsMade.{items_at}
use Rattle.sq_outline.specs.WindowsPlaces.{in_block, occurrences}
use Rattle.sq_outline.specs.WindowsSearch.{thinned}
use Rattle.sq_outline.proofs.WindowsFew.{less_by_one}
use Rattle.sq_outline.proofs.WindowsFinding.{standing_there, standing_few, found_occur, found_made, made_found}
use Rattle.sq_outline.proofs.windows.found.found_at.Goals as goal

pub found_with_sites-requires-clause-places : goal.found_with_sites-requires-clause-places
found_with_sites-requires-clause-places c = standing_there c.args.graph.now.graph c.args.n c.learn.ensures.rules c.args.places.now c.requires.places

pub found_with_sites-requires-clause-few : goal.found_with_sites-requires-clause-few
found_with_sites-requires-clause-few c =
    let few = standing_few c.args.graph.now.graph c.args.n c.learn.ensures.rules c.args.places.now c.requires.places in
    omega (arith, few, less_by_one (length (thinned c.args.n None c.args.places.now)) c.args.n, c.learn.ensures.small.items, length-append (items_of_blocks c.args.graph.now.graph.blocks) (items_of_bodies c.args.graph.now.graph.procedures))

pub returns-in_default-clause-none : goal.returns-in_default-clause-none
returns-in_default-clause-none c = λ e block at link saving are made.
    c.found_with_sites.ensures.none (c.in_ok-found.was ∙ ap Ok c.in_default.is) (in_block block at) link saving (occurrences c.args.graph.now.graph (items_at c.args.graph.now.graph block at c.args.n))
    (made_found c.args.graph.now.graph c.args.n c.learn.ensures.rules c.args.places.now block at link saving are made)

pub returns-clause-some : goal.returns-clause-some
returns-clause-some c =
    let found = rw c.in-Some.is at c.in_ok-found.ensures.some in
    found_made c.args.graph.now.graph c.args.n c.learn.ensures.rules c.args.places.now c.in-Some.found.first c.in-Some.found.link c.in-Some.found.saving c.in-Some._sites.items c.requires.least c.requires.most c.requires.places found

pub returns-clause-first : goal.returns-clause-first
returns-clause-first c =
    let found = rw c.in-Some.is at c.in_ok-found.ensures.some in
    sym found.sites_are
    ∙ (found_occur c.args.graph.now.graph c.args.n c.learn.ensures.rules c.args.places.now c.in-Some.found.first c.in-Some.found.link c.in-Some.found.saving c.in-Some._sites.items c.requires.places found).2
