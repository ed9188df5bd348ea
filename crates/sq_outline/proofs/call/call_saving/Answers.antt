use Rattle.std.proofs.Common.{length, ap, arith}
use Rattle.sq_graph.specs.Blocks.{items_of, body_of}
use Rattle.sq_layout.proofs.Walks.{items_few}
use Rattle.sq_outline.proofs.Plainness.{forms_length}
use Rattle.sq_outline.proofs.call.call_saving.Goals as goal

pub overflow_cast-result : goal.overflow_cast-result
overflow_cast-result c =
    let g = c.args.graph.now.graph in
    let few = items_few g c.args.block c.learn.ensures.few in
    let long = forms_length (items_of g c.args.block) (body_of g c.args.procedure) c.requires.may.body.match.match.forms in
    let is = ap length c.body.ensures in
    omega arith
