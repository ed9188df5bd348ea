use Rattle.std.proofs.Common.{drop}
use Rattle.sq_graph.specs.Matches.{IsWrittenFirst}
use Rattle.sq_rename.proofs.first.is_written_first.Given as goal

abbrev pub invariant-loop-item : goal.invariant-loop-item
invariant-loop-item l = (IsWrittenFirst l.r l.items → IsWrittenFirst l.r (drop l.item-index l.items)) × (IsWrittenFirst l.r (drop l.item-index l.items) → IsWrittenFirst l.r l.items)
