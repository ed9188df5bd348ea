use Rattle.std.proofs.Common.{take}
use Rattle.sq_outline.specs.Sets.{Keeps, IsDeadBehind}
use Rattle.sq_outline.proofs.sets.dead_behind.Given as goal

abbrev pub invariant-loop-block : goal.invariant-loop-block
invariant-loop-block l = Keeps (IsDeadBehind l.graph.graph l.r) (take l.block-index l.blocks) l.chosen.items
