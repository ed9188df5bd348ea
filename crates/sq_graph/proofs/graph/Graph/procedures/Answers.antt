use Rattle.std.proofs.Common.{◌∙◌, sym, arith}
use Rattle.sq_graph.proofs.Sizes.{sizes}
use Rattle.sq_graph.proofs.graph.Graph.procedures.Goals as goal

pub overflow_cast-result : goal.overflow_cast-result
overflow_cast-result c =
    let size = sizes c.self.inside c.self.invariant in
    omega (arith, size.bodies, size.body_room, c.len.ensures, c.self.inside.bodies.ok.0)

pub returns : goal.returns
returns c = c.len.ensures ∙ c.self.inside.bodies.ok.0 ∙ rw (← c.self.view_is) (sym (sizes c.self.inside c.self.invariant).counted)
