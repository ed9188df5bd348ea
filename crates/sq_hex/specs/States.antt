-- What the reader of a text works with.
use Rattle.std.specs.Prelude.{ℕ, ◌+◌, ◌^◌, ◌≤◌, nat_eq, if◌then◌else◌, List, [], ◌∷◌, Option}
use Rattle.std.specs.List.{All}
use Rattle.sq_elf.specs.declared.segment.Segment.{Segment}
use Rattle.sq_hex.specs.declared.command.Command.{Command}
use Rattle.sq_hex.specs.declared.command.Command.TheVariants.{Data, End, Base, Start}
use Rattle.sq_hex.specs.declared.read.Reader.{Reader}
use Rattle.sq_hex.specs.Meaning.{HexMeaning, HexState}

-- a line without the carriage return at its end
abbrev pub without_return : List ℕ → List ℕ
without_return [] = []
without_return (byte ∷ []) = if nat_eq byte 13 then [] else byte ∷ []
without_return (byte ∷ next ∷ bytes) = byte ∷ without_return (next ∷ bytes)

-- each offset from a base is an address
abbrev pub IsInMemory : Command → Type 0
IsInMemory Data = Unit {0}
IsInMemory End = Unit {0}
IsInMemory (Base base) = base + 65536 ≤ 2 ^ 32
IsInMemory (Start start) = Unit {0}

abbrev pub meaning : List (ℕ × ℕ) → Option ℕ → HexMeaning
meaning bytes start = record { bytes = bytes; start = start }

-- the state that the reader holds
abbrev pub state_of : Reader → HexState
state_of r = record { bytes = r.bytes.entries; start = r.start; base = r.base; ended = r.ended }

abbrev pub FitsMemory : Reader → Type 0
FitsMemory r = r.base + 65536 ≤ 2 ^ 32

-- no load range passes the end of memory
abbrev pub AreBounded : List Segment → Type 0
AreBounded segments = All (λ s. s.load_address + s.filesz ≤ 2 ^ 32) segments
