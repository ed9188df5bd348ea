use Rattle.std.proofs.Common.{length, get_or, sym, ap, subst, arith}
use Rattle.sq_graph.specs.Words.{words_of}
use Rattle.sq_pass.specs.Applied.{IsWithin}
use Rattle.sq_layout.proofs.Walks.{items_few}
use Rattle.sq_outline.proofs.Applying.{made_of, inlined_of, made_words, inline_there, inline_within}
use Rattle.sq_outline.proofs.Totals.{items_are_words}
use Rattle.sq_outline.proofs.outlines.OutlinesPass.room.Goals as goal

pub overflow_cast-result : goal.overflow_cast-result
overflow_cast-result c =
    let few = items_few c.args.graph.now.graph (get_or c.as_slice.result.now 0 0) c.learn.ensures.few in
    let is = ap length c.items.ensures in
    omega arith

pub returns-in-O1-clause-within : goal.returns-in-O1-clause-within
returns-in-O1-clause-within c =
    let g = c.args.graph.now.graph in
    let some = made_words g c.args.cut.now c.learn.ensures.rules (made_of g c.args.cut.now c.requires c.in-O1.is) in
    let is = ap length c.items.ensures in
    let few = items_are_words g (get_or c.as_slice.result.now 0 0) in
    record { blocks = omega arith; items = omega arith; procedures = some }

pub inline_room-requires : goal.inline_room-requires
inline_room-requires c = let g = c.args.graph.now.graph in record { there = inline_there g c.args.cut.now (inlined_of g c.args.cut.now c.requires c.in-O4.is) }

pub returns-in-O4-clause-within : goal.returns-in-O4-clause-within
returns-in-O4-clause-within c =
    let g = c.args.graph.now.graph in
    subst (IsWithin (words_of g)) (sym c.inline_room.ensures) (inline_within g c.args.cut.now (inlined_of g c.args.cut.now c.requires c.in-O4.is))
