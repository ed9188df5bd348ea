use Rattle.std.proofs.Common.{◌≡◌, ◌++◌, take}
use Rattle.sq_graph.specs.Calls.{met_items}
use Rattle.sq_graph.proofs.calls.call_items.Given as goal

abbrev pub invariant-loop-i : goal.invariant-loop-i
invariant-loop-i l = l.items.items ≡ l.fn.items.items ++ met_items l.fates (take l.i l.from)
