use Rattle.std.proofs.Common.{◌≡◌, ◌≤◌, ℕ, ◌-◌, length, None, IfSome}
use Rattle.sq_graph.specs.Blocks.{HasProcedure, body_of}
use Rattle.sq_outline.specs.RecalledNumbers.{IsNumberOf}
use Rattle.sq_outline.specs.WindowsInside.{MayCallInside}
use Rattle.sq_outline.proofs.WindowsReading.{read}
use Rattle.sq_outline.proofs.windows.inside.procedure_inside.Given as goal

abbrev pub invariant-loop-at : goal.invariant-loop-at
invariant-loop-at l = record {
  number : IsNumberOf l.bodies.pairs.keys l.number 0 (read l.graph.graph l.place.block l.place.at (l.at - l.place.at));
  some : IfSome l.found (λ procedure. HasProcedure l.graph.graph procedure × MayCallInside l.graph.graph l.place.block l.place.at procedure);
  none : l.found ≡ None → (procedure : ℕ) → HasProcedure l.graph.graph procedure → length (body_of l.graph.graph procedure) ≤ l.at - l.place.at → ¬ MayCallInside l.graph.graph l.place.block l.place.at procedure;
}
