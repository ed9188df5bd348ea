use Rattle.std.proofs.Common.{arith}
use Rattle.sq_rename.proofs.LiveApart.{pair_at}
use Rattle.sq_rename.proofs.apart.have_apart.Goals as goal

pub returns-then-are_apart : goal.returns-then-are_apart
returns-then-are_apart c = λ _.
    let r = c.index-registers-k.result in
    let s = c.index-others-k.result in
    let many = c.requires in
    record {
      first = r;
      second = s;
      pair = pair_at c.args.registers.now c.args.others.now c.loop-k.k r s c.loop-k-test.true (omega (arith, c.loop-k-test.true, many)) c.index-registers-k.is c.index-others-k.is;
      small = c.are_apart.ensures.small;
      apart = c.are_apart.ensures.value.0 c.if-are_apart.true;
    }
