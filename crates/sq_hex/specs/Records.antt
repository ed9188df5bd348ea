-- A record of Intel HEX: a colon, and in hexadecimal digits of either case the bytes of the record. These
-- are a count, two bytes of an offset, a type, as many bytes of data, and one that makes their sum 0
-- modulo 256. Numbers have their highest byte first.
use Rattle.std.specs.Prelude.{ℕ, ◌+◌, ◌*◌, ◌%◌, Bool, ◌&&◌, nat_eq, nat_le, if◌then◌else◌, List, [], ◌∷◌, length, take, drop, slice_index, sum, Option, Some, None, Result, Ok, Err}
use Rattle.hex.specs.declared.error.FromHexError.{FromHexError}
use Rattle.hex.specs.Hex.{decode_of}
use Rattle.sq_hex.specs.declared.command.Command.{Command}
use Rattle.sq_hex.specs.declared.command.Command.TheVariants.{Data, End, Base, Start}

-- the bytes are those of a record
abbrev pub is_record : List ℕ → Bool
is_record bytes = nat_eq (length bytes) (slice_index bytes 0 + 5) && nat_eq (sum bytes % 256) 0

abbrev pub checked : Result (List ℕ) FromHexError → Option (List ℕ)
checked (Ok bytes) = if is_record bytes then Some bytes else None
checked (Err error) = None

-- THE bytes of the record in a line, or none where there is no record
abbrev pub record_of : List ℕ → Option (List ℕ)
record_of [] = None
record_of (mark ∷ digits) = if nat_eq mark 58 then checked (decode_of digits) else None

-- the number in the two bytes from `at` on
abbrev pub two_at : List ℕ → ℕ → ℕ
two_at bytes at = 256 * slice_index bytes at + slice_index bytes (at + 1)

abbrev pub count_of : List ℕ → ℕ
count_of bytes = slice_index bytes 0

abbrev pub offset_of : List ℕ → ℕ
offset_of bytes = two_at bytes 1

abbrev pub type_of : List ℕ → ℕ
type_of bytes = slice_index bytes 3

abbrev pub data_of : List ℕ → List ℕ
data_of bytes = take (count_of bytes) (drop 4 bytes)

-- THE command of a record, or none where its type is none of 0 to 5 or has another length. Type 0 is
-- data, whose offsets stay below 65,536; 1 the end; 2 a base of 16 times its number; 3 a start of 16 times
-- its first number plus its second; 4 a base of 65,536 times its number; 5 a start, a number of four bytes.
unfoldable pub command_of : List ℕ → Option Command
command_of bytes =
    if nat_eq (type_of bytes) 0 && nat_le (offset_of bytes + count_of bytes) 65536 then Some Data else
    if nat_eq (type_of bytes) 1 && nat_eq (count_of bytes) 0 then Some End else
    if nat_eq (type_of bytes) 2 && nat_eq (count_of bytes) 2 then Some (Base (16 * two_at bytes 4)) else
    if nat_eq (type_of bytes) 3 && nat_eq (count_of bytes) 4 then Some (Start (16 * two_at bytes 4 + two_at bytes 6)) else
    if nat_eq (type_of bytes) 4 && nat_eq (count_of bytes) 2 then Some (Base (65536 * two_at bytes 4)) else
    if nat_eq (type_of bytes) 5 && nat_eq (count_of bytes) 4 then Some (Start (65536 * two_at bytes 4 + two_at bytes 6)) else
    None
