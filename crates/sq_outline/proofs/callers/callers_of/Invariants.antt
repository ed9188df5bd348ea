use Rattle.std.specs.List.{All}
use Rattle.sq_graph.specs.Blocks.{items_of}
use Rattle.sq_outline.specs.Still.{IsCaller}
use Rattle.sq_outline.proofs.callers.callers_of.Given as goal

abbrev pub invariant-loop-i : goal.invariant-loop-i
invariant-loop-i l = All (IsCaller l.graph.graph (items_of l.graph.graph l.first)) l.callers.items
