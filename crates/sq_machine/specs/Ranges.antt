-- Ranges of bytes against whole pieces.
use Rattle.std.specs.Prelude.{◌≡◌, ℕ, ◌+◌, ◌≤◌, Bool, false, ◌==◌, ◌&&◌, not, nat_le, bit_and, List}
use Rattle.std.specs.List.{list_any}
use Rattle.sq_system.specs.Starts.{meets}
use Rattle.sq_system.specs.declared.piece.Piece.{Piece}
use Rattle.sq_machine.specs.declared.bare_ram.BareRam.{BareRam}

-- the piece has the permission, and the n bytes from x on are in it
abbrev pub allows_all : ℕ → ℕ → ℕ → Piece → Bool
allows_all permission x n piece =
    nat_le piece.extent.address x
    && nat_le (x + n) (piece.extent.address + piece.extent.length)
    && not (bit_and piece.flags permission == 0)

-- one of the `size` bytes from `base` on is in the piece
abbrev pub meets_ram : ℕ → ℕ → Piece → Bool
meets_ram base size piece = meets base (base + size) piece.extent

-- these bytes are in RAM, which is `size` bytes from `base` on, and none of them is in a piece
pub record IsBareRam (pieces : List Piece) (base size : ℕ) (bare : BareRam) : Type 0 where
  pub from : base ≤ bare.base
  pub below : bare.base + bare.size ≤ base + size
  pub outside : list_any (meets_ram bare.base bare.size) pieces ≡ false
