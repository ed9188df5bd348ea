use Rattle.std.proofs.Common.{ap, length, arith}
use Rattle.sq_write.specs.Output.{piece_bytes}
use Rattle.sq_write.specs.Laid.{seen}
use Rattle.sq_write.proofs.PieceWalks.{small_parts, count_split}
use Rattle.sq_write.proofs.output.text_at.Goals as goal

pub stored-requires : goal.stored-requires
stored-requires c =
    let small = small_parts (seen c.args.p.now) c.requires in
    omega (arith, small.sum, ap (λ ps. length (piece_bytes ps)) c.deref.ensures.value)

pub overflow_add-result : goal.overflow_add-result
overflow_add-result c =
    let small = small_parts (seen c.args.p.now) c.requires in
    omega (arith, small.sum, count_split (seen c.args.p.now), c.pieces_end.ensures, c.stored.ensures, ap (λ ps. length (piece_bytes ps)) c.deref.ensures.value)
