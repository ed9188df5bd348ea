-- Ranges: `size` bytes from a place on. They do not wrap.
use Rattle.std.specs.Prelude.{ℕ, ◌+◌, Bool, ◌&&◌, nat_lt, nat_le, if◌then◌else◌, List, length, take, drop, Option, Some, None}

-- the range leaves the file; an empty one never does, whatever its offset
abbrev pub leaves : List ℕ → ℕ → ℕ → Bool
leaves bytes offset size = nat_lt 0 size && nat_lt (length bytes) (offset + size)

-- two ranges have a byte in common
abbrev pub meets : ℕ → ℕ → ℕ → ℕ → Bool
meets a size b other = nat_lt 0 size && nat_lt 0 other && nat_lt a (b + other) && nat_lt b (a + size)

-- the first range lies wholly in the second
abbrev pub lies_in : ℕ → ℕ → ℕ → ℕ → Bool
lies_in a size b other = nat_le b a && nat_le (a + size) (b + other)

-- the bytes of the range, or none where it leaves the file
unfoldable pub bytes_at : List ℕ → ℕ → ℕ → Option (List ℕ)
bytes_at bytes offset size = if leaves bytes offset size then None else Some (take size (drop offset bytes))
