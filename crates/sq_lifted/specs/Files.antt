-- What holds of each file that is not refused. The number of each of its bytes is below 256.
use Rattle.std.specs.Prelude.{◌≡◌, ℕ, ◌<◌, Bool, List}
use Rattle.std.specs.List.{AllByRecursion}
use Rattle.law_runs.specs.Runs.{IsUnbroken}
use Rattle.law_runs.specs.Follows.{LocksWith}
use Rattle.sq_system.specs.Starts.{Start}
use Rattle.sq_reloc.specs.CodeWords.{IsAscending}
use Rattle.law_follow.specs.Worlds.{setting_of}
use Rattle.law_follow.specs.GraphRuns.{graph_step}
use Rattle.law_follow.specs.Follows.{state_at_start, graph_run, Follows}
use Rattle.sq_graph.specs.Graph.{Graph}
use Rattle.law_program.specs.Programs.{Program}
use Rattle.law_program.specs.Lifted.{lifted}
use Rattle.law_program.specs.FilePrograms.{IsReadAs, IsAccepted, IsLiftedFrom}
use Rattle.law_program.specs.Monitored.{monitored_step}
use Rattle.law_program.specs.FileRuns.{world_of, watched_start, watched_layout, IsUnbrokenRun}
use Rattle.sq_run.specs.FileRuns.{file_world, file_state, file_trace}
use Rattle.law_lifting.specs.Lifting.{IsLinked, IsWorldOf}
use Rattle.law_lifting.specs.Watching.{IsLaidOut, IsPlainStart}
use Rattle.sq_lifted.specs.Lifted.{IsShort, IsGoodGraph}

-- Accepted by all that is asked before its text, a file has a linked program: with text as relocations mark it, at most
-- 1 MiB long, and with code words that ascend.
pub record IsLinkedProgram (p : Program) : Type 0 where
  pub linked : IsLinked p
  pub short : IsShort p.text
  pub code_words : IsAscending p.code_words

abbrev pub FilesAreLinked : Type 0
FilesAreLinked =
    (bytes : List ℕ) (is : ℕ → Bool) (p : Program) → AllByRecursion (λ b. b < 256) bytes → IsReadAs bytes is p → IsLinkedProgram p

-- The world of a file has its program's text, each word of which is executable.
abbrev pub FileWorldsFit : Type 0
FileWorldsFit =
    (bytes : List ℕ) (is : ℕ → Bool) (p : Program) → IsReadAs bytes is p → (start : Start) → IsWorldOf (world_of bytes p) start p

-- The run of the lifted graph of a file that is not refused, over the file's world, shows what the monitored run of the
-- file shows, after each number of steps, while that is unbroken.
abbrev pub LiftedFilesKeepRuns : Type 0
LiftedFilesKeepRuns =
    (bytes : List ℕ) (is : ℕ → Bool) (p : Program) → AllByRecursion (λ b. b < 256) bytes → IsAccepted bytes is p → (start : Start)
    → LocksWith (monitored_step (watched_layout bytes p start) p.text) (watched_start (world_of bytes p) p start) (graph_step (setting_of (world_of bytes p) start) (lifted is p)) (state_at_start (world_of bytes p) (lifted is p) start)

-- The lifted graph of a file that is not refused is good.
abbrev pub LiftedFilesAreGood : Type 0
LiftedFilesAreGood =
    (bytes : List ℕ) (is : ℕ → Bool) (p : Program) → AllByRecursion (λ b. b < 256) bytes → IsAccepted bytes is p → IsGoodGraph is p

-- A lifted graph of a file, whatever its blocks are called, follows the one that is named by addresses.
abbrev pub LiftedFilesFollow : Type 0
LiftedFilesFollow =
    (bytes : List ℕ) (is : ℕ → Bool) (p : Program) (g : Graph) → AllByRecursion (λ b. b < 256) bytes → IsLiftedFrom bytes is p g → Follows (lifted is p) g

-- The memory of a file's plain machine is laid out as that of its world.
abbrev pub FilesAreLaidOut : Type 0
FilesAreLaidOut = (bytes : List ℕ) (p : Program) (start : Start) → IsLaidOut (world_of bytes p) start (file_world bytes start)

-- The plain machine of a file starts as its monitored run does: with the entry, the stack pointer, the file's words in
-- text, and the bytes of the world's cells in memory.
abbrev pub FilesStartPlain : Type 0
FilesStartPlain =
    (bytes : List ℕ) (is : ℕ → Bool) (p : Program) → AllByRecursion (λ b. b < 256) bytes → IsReadAs bytes is p → (start : Start)
    → IsPlainStart is (world_of bytes p) start p (file_world bytes start) (file_state bytes start)

-- Where the monitored run of a file that is not refused is unbroken for n steps, so is the run of its lifted graph over
-- its world, and that shows what the plain machine of the file shows.
abbrev pub FilesShowPlain : Type 0
FilesShowPlain =
    (bytes : List ℕ) (is : ℕ → Bool) (p : Program) → AllByRecursion (λ b. b < 256) bytes → IsAccepted bytes is p → (start : Start) (n : ℕ)
    → IsUnbrokenRun bytes p start n
    → IsUnbroken (graph_run (world_of bytes p) (lifted is p) start n) × (graph_run (world_of bytes p) (lifted is p) start n ≡ file_trace bytes start n)
