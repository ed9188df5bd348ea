use Rattle.std.proofs.Common.{◌≡◌, true, false}
use Rattle.sq_graph.specs.Blocks.{items_of}
use Rattle.sq_outline.proofs.Marking.{marks_alike}
use Rattle.sq_outline.proofs.Printing.{items_fit}
use Rattle.sq_outline.proofs.sets.is_other.Goals as goal

pub returns-then-are_apart : goal.returns-then-are_apart
returns-then-are_apart c =
    let g = c.args.graph.now.graph in
    let first = c.args.first in
    let rules = c.requires.rules in (
      λ is. absurd (let e : false ≡ true = is in cc),
      λ other. absurd (c.are_apart.ensures c.if-are_apart.true (marks_alike g c.args.block c.args.mark.now (items_of g first) c.args.writes.now rules (items_fit g first rules) c.requires.mark c.requires.writes other.1)),
    )
