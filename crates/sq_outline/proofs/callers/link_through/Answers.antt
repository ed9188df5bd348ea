use Rattle.std.proofs.Common.{List, length, get_or, refl, sym, ap, subst, arith}
use Rattle.std.proofs.lemmas.Bool.Decides.{Decides-eqb}
use Rattle.std.proofs.lemmas.Map.Made.{IsDistinct-from_AllPairs}
use Rattle.sq_graph.specs.declared.item.Item.{Item}
use Rattle.sq_layout.proofs.Walks.{items_few}
use Rattle.sq_outline.specs.Made.{ends_of}
use Rattle.sq_outline.specs.Still.{AreCallers}
use Rattle.sq_outline.proofs.Choosing.{blocks_few, link_found}
use Rattle.sq_outline.proofs.Still.{links_by}
use Rattle.sq_outline.proofs.callers.link_through.Goals as goal

pub pays-requires-clause-calls : goal.pays-requires-clause-calls
pays-requires-clause-calls c =
    let g = c.args.graph.now.graph in
    let distinct = IsDistinct-from_AllPairs Decides-eqb c.args.blocks.now (c.in_ok-are_distinct.ensures.0 c.if-not-branch.false) in
    let fewer = blocks_few g c.args.blocks.now c.requires.callers.bodies distinct in
    let small = c.learn.ensures.small.blocks in
    omega arith

pub pays-requires-clause-items : goal.pays-requires-clause-items
pays-requires-clause-items c =
    let few = items_few c.args.graph.now.graph (get_or c.args.blocks.now 0 0) c.learn.ensures.few in
    let is = ap length c.items-items.ensures in
    omega arith

pub returns : goal.returns
returns c =
    let g = c.args.graph.now.graph in
    let blocks = c.args.blocks.now in
    let items = c.items-items.result.now in
    let callers : AreCallers g items blocks c.args.dead = subst (λ (is : List Item). AreCallers g is blocks c.args.dead) (sym c.items-items.ensures) c.requires.callers in
    let distinct = IsDistinct-from_AllPairs Decides-eqb blocks (c.in_ok-are_distinct.ensures.0 c.if-not-branch.false) in
    (link_found g blocks c.requires.callers.bodies c.link_by.result items (ends_of g blocks) c.items-items.ensures refl (links_by g items blocks c.args.dead callers c.link_by.result c.link_by.ensures) distinct (c.pays.ensures.0 c.if-not-pays.false) c.requires.some).0
