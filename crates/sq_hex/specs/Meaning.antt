-- What a text of Intel HEX means: a finite map from addresses to bytes, and a start.
use Rattle.std.specs.Prelude.{ℕ, ◌+◌, Bool, true, false, if◌then◌else◌, List, [], ◌∷◌, Option, Some, None, Result, Ok, Err}
use Rattle.std.specs.Option.{is_some}
use Rattle.std.specs.Ordering.{nat_cmp}
use Rattle.std.specs.Map.{lookup}
use Rattle.std.specs.BTreeMap.{is_at, insert_entry}
use Rattle.sq_hex.specs.declared.command.Command.{Command}
use Rattle.sq_hex.specs.declared.command.Command.TheVariants.{Data, End, Base, Start}
use Rattle.sq_hex.specs.Lines.{lines_of}
use Rattle.sq_hex.specs.Records.{record_of, offset_of, data_of, command_of}

-- the addresses that have a byte, ascending, each with its byte; and the start, where there is one
pub record HexMeaning : Type 0 where
  pub bytes : List (ℕ × ℕ)
  pub start : Option ℕ

-- what the records so far have said: also the base, and whether the end has come
pub record HexState : Type 0 where
  pub bytes : List (ℕ × ℕ)
  pub start : Option ℕ
  pub base : ℕ
  pub ended : Bool

abbrev pub first_state : HexState
first_state = record { bytes = []; start = None; base = 0; ended = false }

-- the byte at the address
abbrev pub byte_at : List (ℕ × ℕ) → ℕ → Option ℕ
byte_at bytes address = lookup (is_at (nat_cmp address)) bytes

-- some bytes more, one after another from the address on; none where one of these addresses has a byte
unfoldable pub with_bytes : List (ℕ × ℕ) → ℕ → List ℕ → Option (List (ℕ × ℕ))
with_bytes bytes address [] = Some bytes
with_bytes bytes address (byte ∷ more) =
    if is_some (byte_at bytes address) then None else with_bytes (insert_entry nat_cmp bytes address byte) (address + 1) more

abbrev pub loaded : HexState → Option (List (ℕ × ℕ)) → Option HexState
loaded state None = None
loaded state (Some bytes) = Some (record state { bytes = bytes })

-- the state behind a record with this command; none where a byte comes twice, or a second start
abbrev pub after_command : HexState → List ℕ → Option Command → Option HexState
after_command state bytes None = None
after_command state bytes (Some Data) = loaded state (with_bytes state.bytes (state.base + offset_of bytes) (data_of bytes))
after_command state bytes (Some End) = Some (record state { ended = true })
after_command state bytes (Some (Base base)) = Some (record state { base = base })
after_command state bytes (Some (Start start)) = if is_some state.start then None else Some (record state { start = Some start })

abbrev pub after_record : HexState → Option (List ℕ) → Option HexState
after_record state None = None
after_record state (Some bytes) = after_command state bytes (command_of bytes)

-- the state behind a line; none where it is at fault, as any line behind the end is
abbrev pub after_line : HexState → List ℕ → Option HexState
after_line state line = if state.ended then None else after_record state (record_of line)

-- what the next state means, or the fault of the line of this number
abbrev pub or_fault : ℕ → Option HexState → (HexState → Result HexMeaning ℕ) → Result HexMeaning ℕ
or_fault number None next = Err number
or_fault number (Some state) next = next state

-- what a text means whose next lines, the first of this number, come at this state: or the number of the
-- first line at fault, which is the one behind the last where the end is missing
unfoldable pub meaning_from : ℕ → HexState → List (List ℕ) → Result HexMeaning ℕ
meaning_from number state [] = if state.ended then Ok (record { bytes = state.bytes; start = state.start }) else Err number
meaning_from number state (line ∷ lines) = or_fault number (after_line state line) (λ next. meaning_from (number + 1) next lines)

-- THE meaning of a text, or the number of its first line at fault, counted from 1
abbrev pub hex_meaning : List ℕ → Result HexMeaning ℕ
hex_meaning text = meaning_from 1 first_state (lines_of text)
