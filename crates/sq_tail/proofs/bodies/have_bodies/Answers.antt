use Rattle.sq_tail.proofs.BodiesFound.{bodies_of, match_of}
use Rattle.sq_tail.proofs.bodies.have_bodies.Goals as goal

pub returns : goal.returns
returns c =
    let g = c.args.graph.now.graph in (
      λ e. bodies_of g c.args.dropped c.args.kept c.if-kept-dropped.false c.requires.may_drop (c.go_on_alike.ensures.0 c.if-not-go_on_alike.false) (c.items_match.ensures.0 e),
      λ have. c.items_match.ensures.1 (match_of g c.args.dropped c.args.kept have),
    )
