-- Which bytes are in memory.
use Rattle.std.specs.Prelude.{◌≡◌, ℕ, Bool, ◌||◌, List, Option}
use Rattle.std.specs.List.{list_any}
use Rattle.law_runs.specs.Runs.{Went, state_after}
use Rattle.sq_system.specs.Starts.{Start, StartFits, HasRoom}
use Rattle.sq_system.specs.declared.event.Event.{Event}
use Rattle.sq_system.specs.World.{World, is_in, is_in_ram}
use Rattle.sq_memory.specs.Cells.{is_in_memory}
use Rattle.sq_machine.specs.State.{State}
use Rattle.sq_machine.specs.Starts.{StartPiece, world_at_start, state_at_start}
use Rattle.sq_machine.specs.Steps.{step_of}

-- the byte at x is in a piece or in RAM
abbrev pub is_mapped : World → ℕ → Bool
is_mapped w x = list_any (is_in x) w.pieces || is_in_ram w x

-- the same bytes are in memory
abbrev pub HasSameBytes : State → State → Type 0
HasSameBytes s t = (x : ℕ) → is_in_memory t.memory x ≡ is_in_memory s.memory x

-- At a start that fits and has room a byte is in memory exactly where it is in a piece or in RAM.
abbrev pub MappedAtStart : Type 0
MappedAtStart =
    (entry : ℕ) (pieces : List StartPiece) (start : Start) → StartFits start.base start.size → HasRoom start
    → (x : ℕ) → is_in_memory (state_at_start entry pieces start).memory x ≡ is_mapped (world_at_start pieces start) x

-- A step that goes on keeps which bytes are in memory.
abbrev pub KeptByStep : Type 0
KeptByStep = (w : World) (s t : State) (e : Option Event) → step_of w s ≡ Went e t → HasSameBytes s t

-- And so do n steps.
abbrev pub KeptByRun : Type 0
KeptByRun = (w : World) (n : ℕ) (s : State) → HasSameBytes s (state_after (step_of w) n s)
