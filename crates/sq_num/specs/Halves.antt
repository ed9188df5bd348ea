-- The two halves of an address in RISC-V instructions (psABI, %hi and %lo).
use Rattle.std.specs.Prelude.{◌≡◌, ℕ, ◌+◌, ◌*◌, ◌/◌, ◌%◌, ◌^◌, nat_lt, if◌then◌else◌, ℤ, pos}
use Rattle.std.specs.Prelude.{◌-ℤ◌}
use Rattle.std.specs.Int.{cast_unsigned, w32}

-- the upper 20 bits of t + 0x800, where the sum wraps at 2^32
abbrev pub high_half : ℕ → ℕ
high_half t = (t + 2048) % 2 ^ 32 / 4096

-- the low 12 bits of t, read as signed
abbrev pub low_half : ℕ → ℤ
low_half t = if nat_lt (t % 4096) 2048 then pos (t % 4096) else (pos (t % 4096) -ℤ pos 4096)

-- the upper half shifted by 12, and the lower half, add up to t modulo 2^32
abbrev pub ArePartsOf : ℕ → ℤ → ℕ → Type 0
ArePartsOf high low t = (high * 4096 + cast_unsigned w32 low) % 2 ^ 32 ≡ t
