use Rattle.std.proofs.Common.{◌≡◌, ◌≤◌, ◌<◌, ℕ, take, length}
use Rattle.sq_graph.specs.Blocks.{items_of_bodies}
use Rattle.sq_outline.specs.RecalledNumbers.{StandOnce}
use Rattle.sq_outline.proofs.RecallNumbers.{IsNumbered}
use Rattle.sq_outline.proofs.recall.body_numbers.Given as goal

abbrev pub invariant-loop-procedure : goal.invariant-loop-procedure
invariant-loop-procedure l = record {
  many : length l.numbers.items ≡ l.procedure;
  few : length l.pairs.keys ≤ length (items_of_bodies (take l.procedure l.graph.graph.procedures));
  once : StandOnce l.pairs.keys;
  numbered : (p : ℕ) → p < l.procedure → IsNumbered l.pairs.keys l.graph.graph l.numbers.items p;
}
