use Rattle.std.proofs.Common.{take}
use Rattle.sq_lookup.specs.Counts.{AreTaken}
use Rattle.sq_lookup.proofs.counts.Uses.take_items.Given as goal

abbrev pub invariant-loop-item : goal.invariant-loop-item
invariant-loop-item l = AreTaken (take l.item-index l.items) l.initial.self l.self
