-- Numbers in the file, least byte first (ELFDATA2LSB of the System V gABI). A field that is not
-- wholly in the file counts as 0: the rows of refusals see to it that none such is read.
use Rattle.std.specs.Prelude.{ℕ, ◌+◌, nat_le, if◌then◌else◌, List, length, drop}
use Rattle.byteorder.specs.Endian.{little_number}

-- the number in the two bytes from `at` on
unfoldable pub u16_field : List ℕ → ℕ → ℕ
u16_field bytes at = if nat_le (at + 2) (length bytes) then little_number 2 (drop at bytes) else 0

-- the number in the four bytes from `at` on
unfoldable pub u32_field : List ℕ → ℕ → ℕ
u32_field bytes at = if nat_le (at + 4) (length bytes) then little_number 4 (drop at bytes) else 0
