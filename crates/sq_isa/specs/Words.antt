-- Words of 32 bits read as signed numbers and back, in two's complement.
use Rattle.std.specs.Prelude.{ℕ, ℤ, Bool, ◌-◌, ◌*◌, ◌%◌, ◌^◌, if◌then◌else◌}
use Rattle.std.specs.Int.{w32, cast_signed, cast_unsigned}

-- a word as a signed number: words from 2^31 on stand for 2^32 less
abbrev pub signed : ℕ → ℤ
signed word = cast_signed w32 word

-- the word of a number from -2^31 to 2^32 - 1: 2^32 is added to a negative one
abbrev pub unsigned : ℤ → ℕ
unsigned z = cast_unsigned w32 z

-- what is left of a number in 32 bits
abbrev pub wrapped : ℕ → ℕ
wrapped n = n % 2 ^ 32

-- a test as a number, 1 or 0
abbrev pub number_of : Bool → ℕ
number_of test = if test then 1 else 0

-- how far a shift goes: the low five bits of its second operand
abbrev pub shift_of : ℕ → ℕ
shift_of b = b % 32

-- the upper 20 bits of a word, the others 0
abbrev pub upper_word : ℕ → ℕ
upper_word upper = wrapped (upper * 2 ^ 12)

-- an address with bit 0 cleared
abbrev pub even : ℕ → ℕ
even x = x - x % 2
