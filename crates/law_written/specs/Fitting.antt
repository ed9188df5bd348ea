-- Outputs whose numbers fit the fields of the file.
use Rattle.std.specs.Prelude.{◌<◌, ◌≤◌, ◌^◌, length}
use Rattle.std.specs.List.{AllByRecursion}
use Rattle.sq_write.specs.Output.{Piece, Output, pieces_of, output_file}

-- a piece of at least one byte of memory, and no more bytes in the file; each of its numbers fits 32 bits
pub record IsFittingPiece (p : Piece) : Type 0 where
  pub address : p.address < 2 ^ 32
  pub load_address : p.load_address < 2 ^ 32
  pub some : 0 < p.size
  pub size : p.size < 2 ^ 32
  pub stored : length p.bytes ≤ p.size
  pub flags : p.flags < 2 ^ 32

-- the entry and each piece fit, there are less than 2^16 pieces, and the file has less than 2^32 bytes
pub record IsFitting (o : Output) : Type 0 where
  pub entry : o.entry < 2 ^ 32
  pub pieces : AllByRecursion IsFittingPiece (pieces_of o)
  pub count : length (pieces_of o) < 2 ^ 16
  pub size : length (output_file o) < 2 ^ 32
