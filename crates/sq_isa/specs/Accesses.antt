-- Loads, stores and atomic operations: how many bytes they take and where, and what a load makes of them, as in
-- the RISC-V manual.
use Rattle.std.specs.Prelude.{ℕ, ◌+◌, ◌*◌, ◌-◌, ◌%◌, ◌^◌, Bool, false, List, [], ◌∷◌, Option, Some, None, ◌==◌, nat_lt, if◌then◌else◌}
use Rattle.sq_isa.specs.declared.instructions.LoadKind.{LoadKind}
use Rattle.sq_isa.specs.declared.instructions.LoadKind.TheVariants.{Lb, Lh, Lw, Lbu, Lhu}
use Rattle.sq_isa.specs.declared.instructions.StoreKind.{StoreKind}
use Rattle.sq_isa.specs.declared.instructions.StoreKind.TheVariants.{Sb, Sh, Sw}

-- a number of n bits as a word, its highest bit in each bit above
abbrev pub sign_extended : ℕ → ℕ → ℕ
sign_extended n v = if nat_lt v (2 ^ (n - 1)) then v else v + (2 ^ 32 - 2 ^ n)

-- how many bytes a load or a store takes
abbrev pub load_width : LoadKind → ℕ
load_width Lb = 1
load_width Lh = 2
load_width Lw = 4
load_width Lbu = 1
load_width Lhu = 2

abbrev pub store_width : StoreKind → ℕ
store_width Sb = 1
store_width Sh = 2
store_width Sw = 4

-- what is loaded as a word
abbrev pub extended : LoadKind → ℕ → ℕ
extended Lb v = sign_extended 8 v
extended Lh v = sign_extended 16 v
extended Lw v = v
extended Lbu v = v
extended Lhu v = v

-- the number of these bytes, the least first
abbrev pub bytes_number : List ℕ → ℕ
bytes_number [] = 0
bytes_number (byte ∷ bytes) = byte + 256 * bytes_number bytes

-- the address is a multiple of the width
abbrev pub is_aligned : ℕ → ℕ → Bool
is_aligned x width = x % width == 0

-- the address is the one that is reserved
abbrev pub is_reserved : ℕ → Option ℕ → Bool
is_reserved x None = false
is_reserved x (Some y) = x == y
