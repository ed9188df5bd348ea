-- Lifting keeps runs.
use Rattle.std.specs.Prelude.{◌≡◌, ℕ, ◌%◌, ◌^◌, ◌<◌, Bool, false, None, Some, slice_get, map}
use Rattle.std.specs.List.{Contains}
use Rattle.law_runs.specs.Follows.{LocksWith}
use Rattle.sq_system.specs.Starts.{Start}
use Rattle.sq_system.specs.World.{is_executable}
use Rattle.sq_reloc.specs.declared.mark.Mark.{Mark}
use Rattle.sq_reloc.specs.declared.mark.Mark.TheVariants.{Hi, Lo}
use Rattle.sq_reloc.specs.Marks.{IsMarked}
use Rattle.law_follow.specs.Worlds.{World, layout_of, setting_of}
use Rattle.law_follow.specs.GraphRuns.{graph_step}
use Rattle.law_follow.specs.Follows.{state_at_start}
use Rattle.law_program.specs.Programs.{Word, Text, Note, Program, word_at, IsWord, insn_in, end_of, target_of}
use Rattle.law_program.specs.Reached.{Decides}
use Rattle.law_program.specs.Notes.{bad_note}
use Rattle.law_program.specs.Faults.{text_refusal}
use Rattle.law_program.specs.Lifted.{lifted}
use Rattle.law_program.specs.FilePrograms.{NoteDies}
use Rattle.law_program.specs.Monitored.{monitored_step}
use Rattle.law_program.specs.FileRuns.{watched_start}

-- a half is that of an address below 2^32
abbrev pub MarkFits : Mark → Type 0
MarkFits (Hi to) = to < 2 ^ 32
MarkFits (Lo to) = to < 2 ^ 32
MarkFits mark = Unit {0}

-- text as relocations mark it: it starts at a multiple of 4, halves of addresses stand in instructions that hold such
-- halves, and addresses and words are below 2^32
pub record IsMarkedText (t : Text) : Type 0 where
  pub aligned : t.lo % 4 ≡ 0
  pub marked : (x : ℕ) (w : Word) → word_at t x ≡ Some w → IsMarked (insn_in w) w.mark
  pub small : (x : ℕ) (w : Word) → word_at t x ≡ Some w → MarkFits w.mark
  pub numbers : (x : ℕ) (w : Word) → word_at t x ≡ Some w → w.number < 2 ^ 32

-- and the entry and the targets of code words are words of text
pub record IsLinked (p : Program) : Type 0 where
  pub text : IsMarkedText p.text
  pub entry : IsWord p.text p.entry
  pub code_words : (x : ℕ) → Contains (map target_of p.code_words) x → IsWord p.text x

-- neither the text of a program nor its notes are refused, but for what is asked of the graph
pub record IsReadable (is : ℕ → Bool) (p : Program) : Type 0 where
  pub text : text_refusal is p ≡ None
  pub notes : bad_note is p ≡ None

-- behind each `jal` to a noted procedure its link is dead
abbrev pub NotesDie : (ℕ → Bool) → Program → Type 0
NotesDie is p = (i : ℕ) (note : Note) → slice_get p.notes i ≡ Some note → NoteDies is p note

-- nothing of a program is refused
pub record IsFine (is : ℕ → Bool) (p : Program) : Type 0 where
  pub text : text_refusal is p ≡ None
  pub notes : bad_note is p ≡ None
  pub dies : (i : ℕ) (note : Note) → slice_get p.notes i ≡ Some note → NoteDies is p note

-- the world has the program's text, and each word of text is executable
pub record IsWorldOf (w : World) (start : Start) (p : Program) : Type 0 where
  pub lo : w.lo ≡ p.text.lo
  pub hi : w.hi ≡ end_of p.text
  pub executable : (x : ℕ) → is_executable (layout_of w start) x ≡ false → word_at p.text x ≡ None

-- The run of the lifted graph shows what the monitored run of the program shows, after each number of steps, while that
-- is unbroken.
abbrev pub LiftingKeepsRuns : Type 0
LiftingKeepsRuns =
    (p : Program) (is : ℕ → Bool) → IsLinked p → Decides p is → IsFine is p → (w : World) (start : Start) → IsWorldOf w start p
    → LocksWith (monitored_step (layout_of w start) p.text) (watched_start w p start) (graph_step (setting_of w start) (lifted is p)) (state_at_start w (lifted is p) start)
