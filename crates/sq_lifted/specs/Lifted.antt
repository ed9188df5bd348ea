-- What the graph of a program is.
use Rattle.std.specs.Prelude.{ℕ, ◌*◌, ◌^◌, ◌≤◌, Bool, length}
use Rattle.sq_reloc.specs.CodeWords.{IsAscending}
use Rattle.sq_graph.specs.Rules.{IsGraph}
use Rattle.sq_graph.specs.Leaders.{IsCanonical}
use Rattle.sq_graph.specs.Soundness.{IsSound}
use Rattle.sq_graph.specs.Words.{words_of}
use Rattle.sq_graph.specs.Places.{IsInReach}
use Rattle.law_program.specs.Programs.{Text, Program, end_of}
use Rattle.law_program.specs.Reached.{Decides}
use Rattle.law_program.specs.Lifted.{lifted}
use Rattle.law_lifting.specs.Lifting.{IsLinked, IsFine}

-- Text as files have it: at most 1 MiB, which ends within the address space
pub record IsShort (t : Text) : Type 0 where
  pub short : 4 * length t.words ≤ 2 ^ 20
  pub ends : end_of t ≤ 2 ^ 32

-- The graph of a program that is not refused keeps the rules, is canonical, sound and in reach, and has no more words than
-- its text.
pub record IsGoodGraph (is : ℕ → Bool) (p : Program) : Type 0 where
  pub graph : IsGraph (lifted is p)
  pub canonical : IsCanonical (lifted is p)
  pub sound : IsSound (lifted is p)
  pub reach : IsInReach (lifted is p)
  pub words : words_of (lifted is p) ≤ length p.text.words

abbrev pub LiftedIsGood : Type 0
LiftedIsGood =
    (p : Program) (is : ℕ → Bool) → IsLinked p → IsShort p.text → IsAscending p.code_words → Decides p is → IsFine is p → IsGoodGraph is p
