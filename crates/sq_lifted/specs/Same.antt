-- Files that do the same.
use Rattle.std.specs.Prelude.{ℕ, ◌<◌, Bool, List}
use Rattle.std.specs.List.{AllByRecursion}
use Rattle.law_runs.specs.Follows.{SameRuns}
use Rattle.sq_system.specs.Starts.{Start}
use Rattle.sq_machine.specs.Steps.{step_of}
use Rattle.sq_graph.specs.Graph.{Graph}
use Rattle.law_follow.specs.Worlds.{IsWorld}
use Rattle.law_follow.specs.Follows.{Follows}
use Rattle.law_program.specs.Programs.{Program}
use Rattle.law_program.specs.FilePrograms.{IsProgramOf, IsReadAs, IsLiftedFrom}
use Rattle.law_program.specs.Monitored.{monitored_step}
use Rattle.law_program.specs.FileRuns.{world_of, watched_start, watched_layout}
use Rattle.sq_run.specs.FileRuns.{file_world, file_state}
use Rattle.law_files.specs.Shows.{IsFileStart, ShowsGraph}

-- The plain runs of two files from a start are the same, while the monitored run of the first is unbroken: each moment of
-- the first is one of the second, and each moment of the second leads to one of the first. p is the program of the first.
abbrev pub HaveSameRuns : List ℕ → List ℕ → Program → Start → Type 0
HaveSameRuns bytes other p start =
    SameRuns (monitored_step (watched_layout bytes p start) p.text) (watched_start (world_of bytes p) p start) (step_of (file_world bytes start)) (file_state bytes start) (step_of (file_world other start)) (file_state other start)

-- THE second file does what the first does: every start that is valid for the first is valid for the second, and their
-- runs from it are the same.
pub record Same (bytes other : List ℕ) : Type 0 where
  pub starts : (start : Start) → IsFileStart bytes start → IsFileStart other start
  pub runs : (p : Program) → IsProgramOf bytes p → (start : Start) → IsFileStart bytes start → HaveSameRuns bytes other p start

-- A file does what another does, where it shows what a graph shows that follows the other's lifted graph.
abbrev pub ShownGraphsAreSame : Type 0
ShownGraphsAreSame =
    (bytes other : List ℕ) (is : ℕ → Bool) (p : Program) (g h : Graph) → AllByRecursion (λ b. b < 256) bytes → IsLiftedFrom bytes is p g → Follows g h → ShowsGraph bytes p h other → Same bytes other

-- The world of a file is one: each of its pieces has its bytes, and no two pieces meet.
abbrev pub FilesAreWorlds : Type 0
FilesAreWorlds =
    (bytes : List ℕ) (is : ℕ → Bool) (p : Program) → AllByRecursion (λ b. b < 256) bytes → IsReadAs bytes is p → IsWorld (world_of bytes p)
