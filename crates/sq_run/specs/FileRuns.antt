-- Runs of a file: how the plain machine starts over its image, and what is seen of its steps.
use Rattle.std.specs.Prelude.{ℕ, List, map}
use Rattle.law_runs.specs.Runs.{Trace}
use Rattle.sq_elf.specs.Headers.{entry_of}
use Rattle.sq_elf.specs.Memory.{MemoryPiece, image_of}
use Rattle.sq_system.specs.Starts.{Start, IsBadStart}
use Rattle.sq_system.specs.declared.event.Event.{Event}
use Rattle.sq_system.specs.declared.event.Halt.{Halt}
use Rattle.sq_system.specs.World.{World}
use Rattle.sq_machine.specs.State.{State}
use Rattle.sq_machine.specs.Starts.{StartPiece, extent_of, world_at_start, state_at_start}
use Rattle.sq_machine.specs.Steps.{trace_of}

-- a piece of a file's image as a run starts with it
abbrev pub start_piece : MemoryPiece → StartPiece
start_piece p = record {
  piece = record { extent = record { address = p.address; length = p.length }; flags = p.flags };
  bytes = p.bytes;
}

abbrev pub pieces_of : List ℕ → List StartPiece
pieces_of file = map start_piece (image_of file)

-- the pieces of the file's image, and RAM
unfoldable pub file_world : List ℕ → Start → World
file_world file start = world_at_start (pieces_of file) start

-- pc is the file's entry, all registers are 0 but sp, and memory has the pieces and RAM
unfoldable pub file_state : List ℕ → Start → State
file_state file start = state_at_start (entry_of file) (pieces_of file) start

-- THE trace of a file's run: the events of its first n steps, and Running or the halt
unfoldable pub file_trace : List ℕ → Start → ℕ → Trace Event Halt
file_trace file start n = trace_of (file_world file start) n (file_state file start)

-- the stack pointer is below the base, or a piece of the file's image meets the argument area
unfoldable pub IsBadFileStart : List ℕ → Start → Type 0
IsBadFileStart file start = IsBadStart (map extent_of (pieces_of file)) start
