use Rattle.std.proofs.Common.{take}
use Rattle.sq_outline.specs.Sets.{Keeps, IsOther}
use Rattle.sq_outline.proofs.sets.others_of.Given as goal

abbrev pub invariant-loop-i : goal.invariant-loop-i
invariant-loop-i l = Keeps (IsOther l.graph.graph l.first) (take l.i l.group) l.others.items
