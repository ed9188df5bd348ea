use Rattle.std.proofs.Common.{◌≡◌, ℕ, drop, nat_eq}
use Rattle.std.specs.HashMap.{get}
use Rattle.sq_drive.specs.Landing.{landing, landing_of}
use Rattle.sq_drive.proofs.tracking.landing.landings.Given as goal

abbrev pub invariant-loop-k : goal.invariant-loop-k
invariant-loop-k l = record {
  landed : (x : ℕ) → get nat_eq l.landings x ≡ landing_of (drop l.k l.graph.graph.blocks) x;
  ahead : l.ahead ≡ landing (drop l.k l.graph.graph.blocks);
}
