-- digits are twice as many as their bytes
use Rattle.std.proofs.Common.{length, arith, ap}
use Rattle.hex.proofs.HexLemmas.{decode_of-ok}
use Rattle.sq_hex.proofs.record.decoded.Goals as goal
use Rattle.sq_hex.proofs.record.decoded.Goals.{then-whole, else-whole}

pub returns-after-whole-clause-short : goal.returns-after-whole-clause-short
returns-after-whole-clause-short c =
    let twice = (decode_of-ok c.args.digits.now c.in-Ok.bytes.items c.in-Ok.ensures.ok).2 in
    elim c.if-whole.branch [
      | then-whole w ↦ rw w.result-is (omega (arith, twice, c.deref.ensures.len, ap length c.deref.ensures.value))
      | else-whole w ↦ rw w.result-is tt
    ]
