use Rattle.std.proofs.Common.{◌∙◌, arith}
use Rattle.test_graphs.specs.Standing.{IsFree}
use Rattle.test_graphs.proofs.Looked.{one_more, all_looked_at}
use Rattle.test_graphs.proofs.rules.body_fits.Goals as goal

pub loop-item-preserved : goal.loop-item-preserved
loop-item-preserved c =
    one_more (IsFree c.args.link) c.args.body.now c.loop-item.item-index c.item-item.result c.loop-item-test.true c.item-item.is (c.is_free.ensures c.if-not-is_free.false) c.loop-item.invariant

pub returns : goal.returns
returns c = λ _.
    let free = all_looked_at (IsFree c.args.link) c.args.body.now c.loop-item.item-index c.loop-item-test.false c.loop-item.invariant in
    record {
      register = omega (arith, c.number.ensures.value, c.number.ensures.range);
      link = λ none. c.if-number-eq0.false (c.number.ensures.value ∙ none);
      no_calls = λ k d there. let item = free k d there in item.no_calls;
      no_mention = λ k d there. let item = free k d there in item.no_mention;
    }
