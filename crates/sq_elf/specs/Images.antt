-- A piece as contracts see it.
use Rattle.sq_elf.specs.declared.image.Piece.{Piece}
use Rattle.sq_elf.specs.Memory.{MemoryPiece}

-- the piece, with its bytes
abbrev pub seen : Piece → MemoryPiece
seen piece = record { address = piece.address; bytes = piece.bytes.now; length = piece.length; flags = piece.flags }
