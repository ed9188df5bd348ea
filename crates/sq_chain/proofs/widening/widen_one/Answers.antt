use Rattle.std.proofs.Common.{◌≡◌, None, is_some, refl, sym, ap, ◌∙◌}
use Rattle.sq_graph.specs.declared.item.Term.TheVariants.{Branch}
use Rattle.sq_graph.specs.Blocks.{next_of}
use Rattle.sq_chain.proofs.OneMore.{slot_after}
use Rattle.sq_chain.proofs.widening.widen_one.Goals as goal

pub unreachable-requires : goal.unreachable-requires
unreachable-requires c =
    let g = c.args.graph.now.graph in
    let ends = c.requires.branch in
    let some = slot_after g c.args.block (Branch ends.cond ends.a ends.b ends.to) c.learn.ensures.rules ends.is refl in
    let none : next_of g c.args.block ≡ None = sym c.next.ensures ∙ c.in_default.is in
    let e = ap is_some none in
    cc

pub returns-clause-wider : goal.returns-clause-wider
returns-clause-wider c = record {
  new = c.jump_over.result;
  next = c.in-Some.next;
  fresh = c.jump_over.ensures.new;
  slot = sym c.next.ensures ∙ c.in-Some.is;
  is = c.jump_over.ensures.graph;
}
