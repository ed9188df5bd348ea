use Rattle.std.proofs.Common.{◌≡◌, ◌++◌, drop}
use Rattle.sq_write.specs.Output.{piece_bytes}
use Rattle.sq_write.proofs.output.push_piece_bytes.Given as goal

abbrev pub invariant-loop-piece : goal.invariant-loop-piece
invariant-loop-piece l = l.file.items ++ piece_bytes (drop l.piece-index l.pieces) ≡ l.fn.file.items ++ piece_bytes l.pieces
