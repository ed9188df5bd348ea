use Rattle.sq_graph.specs.Blocks.{body_of}
use Rattle.sq_outline.proofs.Marking.{marks_alike}
use Rattle.sq_outline.proofs.Printing.{body_fits}
use Rattle.sq_outline.proofs.call.may_call_marked.Goals as goal

pub returns-then-are_apart : goal.returns-then-are_apart
returns-then-are_apart c =
    let g = c.args.graph.now.graph in
    let p = c.args.procedure in
    let rules = c.requires.rules in (
      λ no. absurd (cc),
      λ may. absurd (c.are_apart.ensures c.if-are_apart.true (marks_alike g c.args.block c.args.mark.now (body_of g p) c.args.writes.now rules (body_fits g p rules) c.requires.mark c.requires.writes may.body)),
    )
