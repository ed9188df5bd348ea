use Rattle.std.specs.Prelude.{◌∷◌}
use Rattle.sq_graph.specs.Blocks.{items_of}
use Rattle.sq_outline.specs.Still.{AreCallers}
use Rattle.sq_outline.proofs.callers.others_through.Given as goal

abbrev pub invariant-loop-body : goal.invariant-loop-body
invariant-loop-body l = AreCallers l.graph.graph (items_of l.graph.graph l.first.block) (l.first.block ∷ l.others.items) l.dead
