use Rattle.std.proofs.Common.{◌≡◌}
use Rattle.std.specs.List.{All}
use Rattle.sq_finger.specs.Lines.{line_of}
use Rattle.sq_outline.specs.declared.windows.sweep.Call.{Call}
use Rattle.sq_outline.specs.WindowsInside.{MayCallInside}
use Rattle.sq_outline.proofs.windows.sweep.calls_to_try.Given as goal

abbrev pub invariant-loop-place : goal.invariant-loop-place
invariant-loop-place l = record {
  line : l.place-items ≡ line_of l.graph.graph;
  may : All (λ (call : Call). MayCallInside l.graph.graph call.place.block call.place.at call.procedure) l.calls.items;
}
