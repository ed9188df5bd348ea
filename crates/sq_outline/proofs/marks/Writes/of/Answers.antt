use Rattle.std.proofs.Common.{arith}
use Rattle.std.proofs.lemmas.Option.{slice_get_within}
use Rattle.sq_outline.proofs.marks.Writes.of.Goals as goal

pub returns : goal.returns
returns c = λ bit set at.
    let within = slice_get_within c.loop-bit.sets bit set at in
    let count = c.loop-bit.invariant.count in
    let last = c.loop-bit-test.false in
    c.loop-bit.invariant.each bit set (omega (arith, within, count, last)) at
