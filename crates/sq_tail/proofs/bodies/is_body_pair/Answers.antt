use Rattle.std.proofs.Common.{IsTrue}
use Rattle.sq_tail.proofs.BodiesFound.{pair_of, may_of}
use Rattle.sq_tail.proofs.bodies.is_body_pair.Goals as goal

pub returns-then-may_drop : goal.returns-then-may_drop
returns-then-may_drop c =
    let g = c.args.graph.now.graph in (
      λ e. pair_of g c.args.dropped c.args.kept (c.may_drop.ensures.0 c.if-may_drop.true) (c.have_bodies.ensures.0 e),
      λ pair. c.have_bodies.ensures.1 pair.bodies,
    )

pub returns-else-may_drop : goal.returns-else-may_drop
returns-else-may_drop c = (
  λ e. absurd (cc),
  λ pair.
      let sure : IsTrue c.may_drop.result = c.may_drop.ensures.1 (may_of c.args.graph.now.graph c.args.dropped c.args.kept pair) in
      let fails = c.if-may_drop.false in
      absurd (cc),
)
