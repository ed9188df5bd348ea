use Rattle.std.proofs.Common.{◌∙◌, arith}
use Rattle.sq_lookup.proofs.text.split_all.Goals as goal

pub loop-number-preserved : goal.loop-number-preserved
loop-number-preserved c =
    let so = c.loop-number.invariant.same in
    let more = c.split.ensures.same in
    record {
      kept = c.split.ensures.kept;
      same = record {
        count = more.count ∙ so.count;
        words = λ n within. more.words n (omega (arith, within, so.count)) ∙ so.words n within;
      };
    }
