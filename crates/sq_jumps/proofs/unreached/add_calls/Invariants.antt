use Rattle.std.proofs.Common.{take}
use Rattle.std.specs.List.{flat_map}
use Rattle.sq_graph.specs.Uses.{item_calls}
use Rattle.sq_lookup.specs.Names.{Adds}
use Rattle.sq_jumps.proofs.unreached.add_calls.Given as goal

abbrev pub invariant-loop-item : goal.invariant-loop-item
invariant-loop-item l = Adds (flat_map item_calls (take l.item-index l.items)) l.initial.called l.called
