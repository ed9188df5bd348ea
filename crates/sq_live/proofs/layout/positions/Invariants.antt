use Rattle.std.proofs.Common.{◌≡◌, ℕ, drop}
use Rattle.sq_live.specs.Exits.{position_in, position_at}
use Rattle.sq_live.proofs.layout.positions.Given as goal

abbrev pub invariant-loop-k : goal.invariant-loop-k
invariant-loop-k l = (name : ℕ) → position_at l.positions.items name ≡ position_in (drop l.k l.names) l.k name
