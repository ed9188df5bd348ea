use Rattle.std.proofs.Common.{◌≡◌, ◌+◌, length, drop}
use Rattle.sq_write.specs.Output.{piece_bytes}
use Rattle.sq_write.proofs.output.stored.Given as goal

abbrev pub invariant-loop-piece : goal.invariant-loop-piece
invariant-loop-piece l = l.size + length (piece_bytes (drop l.piece-index l.pieces)) ≡ length (piece_bytes l.pieces)
