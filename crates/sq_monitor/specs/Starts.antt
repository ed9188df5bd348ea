-- The state of a watched run at its start.
use Rattle.std.specs.Prelude.{ℕ, List, None}
use Rattle.sq_isa.specs.Registers.{written}
use Rattle.sq_memory.specs.Cells.{Cells}
use Rattle.sq_system.specs.declared.piece.Piece.{Piece}
use Rattle.sq_system.specs.declared.start.Extent.{Extent}
use Rattle.law_follow.specs.Values.{Num, Cell, Holds}
use Rattle.law_program.specs.Monitored.{Watched}

abbrev pub extent_of : Piece → Extent
extent_of piece = piece.extent

-- pc is the entry, all registers are the number 0 but sp, and there is no reservation
abbrev pub state_at : ℕ → ℕ → Cells Cell → List ℕ → Watched
state_at entry pointer memory input = record {
  pc = entry;
  core = record {
    registers = written 2 (Holds (Num pointer)) (λ r. Holds (Num 0));
    store = record { memory = memory; input = input; reservation = None };
  };
}
