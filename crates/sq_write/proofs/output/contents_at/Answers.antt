use Rattle.std.proofs.Common.{ap, length, arith}
use Rattle.sq_write.specs.Output.{piece_bytes}
use Rattle.sq_write.specs.Laid.{seen}
use Rattle.sq_write.proofs.PieceWalks.{small_parts, text_from_is, contents_from_is}
use Rattle.sq_write.proofs.output.contents_at.Goals as goal

pub stored-requires : goal.stored-requires
stored-requires c =
    let small = small_parts (seen c.args.p.now) c.requires in
    omega (arith, small.sum)

pub overflow_add-result : goal.overflow_add-result
overflow_add-result c =
    let small = small_parts (seen c.args.p.now) c.requires in
    omega (arith, small.sum, text_from_is (seen c.args.p.now), c.text_at.ensures, c.stored.ensures)

pub stored-requires-2 : goal.stored-requires-2
stored-requires-2 c =
    let small = small_parts (seen c.args.p.now) c.requires in
    omega (arith, small.sum, ap (λ ps. length (piece_bytes ps)) c.deref.ensures.value)

pub overflow_add-result-2 : goal.overflow_add-result-2
overflow_add-result-2 c =
    let small = small_parts (seen c.args.p.now) c.requires in
    omega (arith, small.sum, text_from_is (seen c.args.p.now), c.text_at.ensures, c.stored.ensures, c.stored-2.ensures, ap (λ ps. length (piece_bytes ps)) c.deref.ensures.value)

pub returns-clause-value : goal.returns-clause-value
returns-clause-value c =
    omega (arith, contents_from_is (seen c.args.p.now), c.text_at.ensures, c.stored.ensures, c.stored-2.ensures, ap (λ ps. length (piece_bytes ps)) c.deref.ensures.value)

pub returns-clause-small : goal.returns-clause-small
returns-clause-small c =
    let small = small_parts (seen c.args.p.now) c.requires in
    omega (arith, small.sum, text_from_is (seen c.args.p.now), c.text_at.ensures, c.stored.ensures, c.stored-2.ensures, ap (λ ps. length (piece_bytes ps)) c.deref.ensures.value)
