-- The start of a run over pieces of a file.
use Rattle.std.specs.Prelude.{ℕ, ◌-◌, List, [], ◌∷◌, ◌++◌, length, take, map, replicate, None}
use Rattle.sq_memory.specs.Regions.{Region, get}
use Rattle.sq_system.specs.Starts.{Start, stack_pointer, ram_at_start}
use Rattle.sq_system.specs.declared.start.Extent.{Extent}
use Rattle.sq_system.specs.World.{World}
use Rattle.sq_machine.specs.State.{State, with_register}
use Rattle.sq_system.specs.declared.piece.Piece.{Piece}
use Rattle.sq_machine.specs.declared.world.LoadedPiece.{LoadedPiece}

-- a piece as a run starts with it: where it stands with its permissions, and the bytes that a file has for it
pub record StartPiece : Type 0 where
  pub piece : Piece
  pub bytes : List ℕ

abbrev pub seen : LoadedPiece → StartPiece
seen loaded = record { piece = loaded.piece; bytes = loaded.bytes.now }

abbrev pub piece_of : StartPiece → Piece
piece_of p = p.piece

abbrev pub extent_of : StartPiece → Extent
extent_of p = p.piece.extent

-- the bytes of a piece: those of the file, and then zeros
abbrev pub bytes_of : StartPiece → List ℕ
bytes_of p = take (extent_of p).length p.bytes ++ replicate ((extent_of p).length - length p.bytes) 0

abbrev pub piece_region : StartPiece → Region ℕ
piece_region p = record { start = (extent_of p).address; cells = bytes_of p }

abbrev pub ram_region : Start → Region ℕ
ram_region start = record { start = start.base; cells = ram_at_start start }

-- a byte in a piece belongs to the piece; another byte of RAM is that of RAM
abbrev pub regions_at_start : List StartPiece → Start → List (Region ℕ)
regions_at_start pieces start = map piece_region pieces ++ ram_region start ∷ []

abbrev pub world_at_start : List StartPiece → Start → World
world_at_start pieces start = record { pieces = map piece_of pieces; base = start.base; size = start.size }

abbrev pub zeros : ℕ → ℕ
zeros r = 0

-- the stack pointer sp, x2
abbrev pub sp : ℕ
sp = 2

-- pc is the entry, and all registers are 0 but sp
abbrev pub state_at : ℕ → List (Region ℕ) → ℕ → List ℕ → State
state_at entry regions pointer input = with_register sp pointer (record {
  pc = entry;
  registers = zeros;
  memory = get regions;
  input = input;
  reservation = None;
})

abbrev pub state_at_start : ℕ → List StartPiece → Start → State
state_at_start entry pieces start = state_at entry (regions_at_start pieces start) (stack_pointer start) start.input
