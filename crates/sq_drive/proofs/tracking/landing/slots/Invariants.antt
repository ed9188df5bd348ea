use Rattle.std.proofs.Common.{◌≡◌, ℕ, drop, nat_eq}
use Rattle.std.specs.HashMap.{get}
use Rattle.sq_graph.specs.Slotted.{number_in}
use Rattle.sq_drive.proofs.tracking.landing.slots.Given as goal

abbrev pub invariant-loop-k : goal.invariant-loop-k
invariant-loop-k l = (x : ℕ) → get nat_eq l.slots x ≡ number_in (drop l.k l.names.items) l.k x
