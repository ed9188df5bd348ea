-- Bytes of RAM that are in no piece.
use Rattle.std.proofs.Common.{◌≡◌, ℕ, ◌+◌, ◌≤◌, true, false, arith}
use Rattle.std.specs.List.{list_any}
use Rattle.sq_system.specs.World.{World, is_writable, are_all}
use Rattle.sq_machine.specs.Ranges.{meets_ram}
use Rattle.sq_machine.proofs.Pieces.{writable_in_ram}

pub bare_writable : (w : World) (x n : ℕ) → w.base ≤ x → x + n ≤ w.base + w.size → list_any (meets_ram x n) w.pieces ≡ false → are_all (is_writable w) x n ≡ true
bare_writable w x n from below outside =
    writable_in_ram w (record { base = x; size = n }) x n (record { from = from; below = below; outside = outside }) (omega arith) (omega arith)
