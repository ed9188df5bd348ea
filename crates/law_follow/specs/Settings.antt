-- What instructions on tagged values act on: what never changes, and what does.
use Rattle.std.specs.Prelude.{ℕ, ◌+◌, ◌^◌, Bool, ◌&&◌, Option, List, nat_le, nat_lt, min, max}
use Rattle.sq_memory.specs.Cells.{Cells}
use Rattle.sq_system.specs.World.{World, is_writable, is_range}
use Rattle.sq_isa.specs.Accesses.{is_aligned}
use Rattle.law_follow.specs.Values.{Cell, Value}

-- memory, the text from `lo` up to, without, `hi`, and which names are code: on a file the addresses in text, in a
-- graph all
pub record Setting : Type 0 where
  pub world : World
  pub lo : ℕ
  pub hi : ℕ
  pub is_code : ℕ → Bool

-- what stands in memory, the input that is left, and the reservation
pub record Store : Type 0 where
  pub memory : Cells Cell
  pub input : List ℕ
  pub reservation : Option ℕ

-- what an instruction makes: a value for its destination, and a store
pub record Made : Type 0 where
  pub value : Value
  pub store : Store

abbrev pub is_in_text : Setting → ℕ → Bool
is_in_text s x = nat_le s.lo x && nat_lt x s.hi

-- one of the n bytes from x on is in text. A range that passes 2^32 meets nothing.
abbrev pub meets_text : Setting → ℕ → ℕ → Bool
meets_text s x n = nat_le (x + n) (2 ^ 32) && nat_lt (max s.lo x) (min s.hi (x + n))

-- the address is a multiple of the width, and all of the bytes there are writable
abbrev pub may_store : Setting → ℕ → ℕ → Bool
may_store s x width = is_aligned x width && is_range (is_writable s.world) x width
