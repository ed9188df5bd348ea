use Rattle.sq_write.proofs.PieceWalks.{HeadersLeave}
use Rattle.sq_write.proofs.output.push_piece_headers.Given as goal

abbrev pub invariant-loop-piece : goal.invariant-loop-piece
invariant-loop-piece l = HeadersLeave l.pieces l.fn.offset l.fn.file.items l.file.items l.piece-index l.offset
