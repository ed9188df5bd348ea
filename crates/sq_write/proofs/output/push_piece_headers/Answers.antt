use Rattle.sq_write.proofs.PieceWalks.{next_header}
use Rattle.sq_write.proofs.output.push_piece_headers.Goals as goal

pub loop-piece-preserved : goal.loop-piece-preserved
loop-piece-preserved c =
    next_header c.args.pieces.now c.args.offset c.args.file.now.items c.loop-piece.file.items c.push_piece_header.new.file.items c.loop-piece.piece-index c.loop-piece.offset c.stored-offset.result c.piece-item.result c.loop-piece-test.true c.piece-item.is c.stored-offset.ensures c.in_ok-push_piece_header.ensures c.loop-piece.invariant
