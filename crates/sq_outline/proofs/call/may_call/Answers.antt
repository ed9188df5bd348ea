use Rattle.std.proofs.Common.{length, sym, ap, ◌∙◌, arith}
use Rattle.sq_graph.specs.Blocks.{items_of, body_of}
use Rattle.sq_layout.proofs.Walks.{items_few}
use Rattle.sq_outline.proofs.Plainness.{forms_length}
use Rattle.sq_outline.proofs.call.may_call.Goals as goal

pub returns-then-items-count : goal.returns-then-items-count
returns-then-items-count c =
    let g = c.args.graph.now.graph in (
      λ no. absurd (cc),
      λ may. absurd (c.if-items-count.true (ap length c.items-items.ensures ∙ forms_length (items_of g c.args.block) (body_of g c.args.procedure) may.body.match.match.forms ∙ sym (ap length c.body-count.ensures))),
    )

pub overflow_cast-count : goal.overflow_cast-count
overflow_cast-count c =
    let few = items_few c.args.graph.now.graph c.args.block c.learn.ensures.few in
    let is = ap length c.items-items.ensures in
    omega arith
