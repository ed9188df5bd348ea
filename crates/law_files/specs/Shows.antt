-- Files that show, on the plain machine, what a graph does.
use Rattle.std.specs.Prelude.{ℕ, List, map}
use Rattle.law_runs.specs.Follows.{LocksWith}
use Rattle.sq_system.specs.Starts.{Start, IsValidStart}
use Rattle.sq_machine.specs.Starts.{extent_of}
use Rattle.sq_machine.specs.Steps.{step_of}
use Rattle.sq_graph.specs.Graph.{Graph}
use Rattle.law_follow.specs.Worlds.{setting_of}
use Rattle.law_follow.specs.GraphRuns.{graph_step}
use Rattle.law_follow.specs.Follows.{state_at_start}
use Rattle.law_program.specs.Programs.{Program}
use Rattle.law_program.specs.FileRuns.{world_of}
use Rattle.sq_run.specs.FileRuns.{pieces_of, file_world, file_state}

-- a start that is valid for a file: it fits, and isn't bad over the pieces of the file's image
abbrev pub IsFileStart : List ℕ → Start → Type 0
IsFileStart bytes start = IsValidStart (map extent_of (pieces_of bytes)) start

-- Another file shows, on the plain machine and after each number of steps, what a graph shows over the world of this file,
-- while that is unbroken; and every start that is valid for this file is valid for it.
pub record ShowsGraph (bytes : List ℕ) (p : Program) (g : Graph) (other : List ℕ) : Type 0 where
  pub starts : (start : Start) → IsFileStart bytes start → IsFileStart other start
  pub runs : (start : Start) → IsFileStart bytes start → LocksWith (graph_step (setting_of (world_of bytes p) start) g) (state_at_start (world_of bytes p) g start) (step_of (file_world other start)) (file_state other start)
