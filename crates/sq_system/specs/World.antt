-- What a run never changes: the pieces of a file in memory with their permissions, and RAM.
use Rattle.std.specs.Prelude.{ℕ, zero, suc, ◌+◌, ◌^◌, Bool, true, ◌==◌, ◌&&◌, not, nat_le, nat_lt, bit_and, if◌then◌else◌, List}
use Rattle.std.specs.List.{list_any}
use Rattle.sq_system.specs.declared.piece.Piece.{Piece}

-- pieces, and `size` bytes of RAM from `base` on
pub record World : Type 0 where
  pub pieces : List Piece
  pub base : ℕ
  pub size : ℕ

-- the permissions of a segment (p_flags of the System V gABI)
abbrev pub PF_X : ℕ
PF_X = 1

abbrev pub PF_W : ℕ
PF_W = 2

-- the byte at x is in the piece
abbrev pub is_in : ℕ → Piece → Bool
is_in x piece = nat_le piece.extent.address x && nat_lt x (piece.extent.address + piece.extent.length)

-- it is in the piece, which has the permission
abbrev pub is_in_with : ℕ → ℕ → Piece → Bool
is_in_with permission x piece = is_in x piece && not (bit_and piece.flags permission == 0)

-- the byte at x is in RAM
abbrev pub is_in_ram : World → ℕ → Bool
is_in_ram w x = nat_le w.base x && nat_lt x (w.base + w.size)

-- The byte at x is executable: it is in a piece with PF_X.
unfoldable pub is_executable : World → ℕ → Bool
is_executable w x = list_any (is_in_with PF_X x) w.pieces

-- The byte at x is writable: it is in a piece with PF_W, or in RAM and no piece.
unfoldable pub is_writable : World → ℕ → Bool
is_writable w x = if list_any (is_in x) w.pieces then list_any (is_in_with PF_W x) w.pieces else is_in_ram w x

-- each of the n bytes from x on
abbrev pub are_all : (ℕ → Bool) → ℕ → ℕ → Bool
are_all test x zero = true
are_all test x (suc n) = are_all test x n && test (x + n)

-- a range of n bytes from x on that doesn't pass 2^32, and each of its bytes
abbrev pub is_range : (ℕ → Bool) → ℕ → ℕ → Bool
is_range test x n = nat_le (x + n) (2 ^ 32) && are_all test x n
