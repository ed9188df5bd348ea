use Rattle.std.proofs.Common.{take}
use Rattle.std.specs.List.{All}
use Rattle.sq_lookup.specs.Addresses.{HasReach}
use Rattle.sq_lookup.proofs.reach.all_have_reach.Given as goal

abbrev pub invariant-loop-name : goal.invariant-loop-name
invariant-loop-name l = All (HasReach l.graph.graph) (take l.name-index l.names)
