use Rattle.std.proofs.Common.{drop}
use Rattle.std.specs.List.{flat_map}
use Rattle.sq_graph.specs.Matches.{item_registers, IsPairIn}
use Rattle.sq_rename.specs.Pairs.{IsJoining}
use Rattle.sq_rename.proofs.pairs.Pairs.keep_all.Given as goal

abbrev pub invariant-loop-item : goal.invariant-loop-item
invariant-loop-item l =
    IsJoining l.initial.self (IsPairIn (flat_map item_registers l.items) (flat_map item_registers l.items))
    l.self (IsPairIn (flat_map item_registers (drop l.item-index l.items)) (flat_map item_registers (drop l.item-index l.items)))
