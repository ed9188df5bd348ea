use Rattle.std.proofs.Common.{ℕ, ◌≤◌, ◌<◌, take, length, nat_eq}
use Rattle.std.specs.HashMap.{get}
use Rattle.sq_graph.specs.Blocks.{body_of, items_of_bodies}
use Rattle.sq_outline.specs.RecalledNumbers.{IsNumberOf, StandOnce}
use Rattle.sq_outline.specs.Spans.{IsIn}
use Rattle.sq_outline.proofs.windows.bodies.read_bodies.Given as goal

abbrev pub invariant-loop-procedure : goal.invariant-loop-procedure
invariant-loop-procedure l = record {
  few : length l.pairs.keys ≤ length (items_of_bodies (take l.procedure l.graph.graph.procedures));
  once : StandOnce l.pairs.keys;
  each : (p : ℕ) → p < l.procedure → (number : ℕ) × IsNumberOf l.pairs.keys number 0 (body_of l.graph.graph p) × IsIn (get nat_eq l.ends number) p;
}
