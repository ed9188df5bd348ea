use Rattle.std.proofs.Common.{◌≡◌, ℕ, ◌<◌, length}
use Rattle.sq_lookup.specs.Standing.{part_at, row_of}
use Rattle.sq_lookup.proofs.text.rows.Given as goal

abbrev pub invariant-loop-row : goal.invariant-loop-row
invariant-loop-row l =
    record {
      count : length l.parts.items ≡ l.row;
      each : (p : ℕ) → p < length l.parts.items → part_at l.parts.items p ≡ row_of p;
    }
