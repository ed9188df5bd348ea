-- Where the blocks of a program begin.
use Rattle.std.specs.Prelude.{◌≡◌, ℕ, List, Option, nat_eq}
use Rattle.std.specs.Map.{lookup}
use Rattle.sq_graph.specs.Parts.{names_of}
use Rattle.sq_graph.specs.Slotted.{number_in}
use Rattle.law_program.specs.Programs.{Program}
use Rattle.law_program.specs.Reached.{Decides}
use Rattle.law_program.specs.Lifted.{lifted}
use Rattle.sq_lift.specs.Flags.{Flags, is_flagged}

-- a flag for each reached word, and the numbers of blocks by the addresses where they begin
pub record Starts : Type 0 where
  pub reached : Flags
  pub numbers : List (ℕ × ℕ)

-- the number of the block that begins at an address
abbrev pub slot_at : Starts → ℕ → Option ℕ
slot_at starts x = lookup (nat_eq x) starts.numbers

-- the starts are those of the program: the flags decide which words are reached, and each block of the graph has its number
-- in layout order at the address where it begins, and no other address has one
pub record AreStarts (p : Program) (starts : Starts) : Type 0 where
  pub reached : Decides p (is_flagged starts.reached)
  pub slot : (x : ℕ) → slot_at starts x ≡ number_in (names_of (lifted (is_flagged starts.reached) p)) 0 x
