use Rattle.sq_chain.proofs.Surveyed.{not_among}
use Rattle.sq_chain.proofs.order.place_of_either.Goals as goal

pub loop-i-preserved : goal.loop-i-preserved
loop-i-preserved c = record {
  one = λ k. not_among c.args.extents.now c.loop-i.i c.args.one c.index-extents-i.result c.loop-i-test.true c.if-name-one.false k (c.loop-i.invariant.one k);
  other = λ k. not_among c.args.extents.now c.loop-i.i c.args.other c.index-extents-i.result c.loop-i-test.true c.if-name-other.false k (c.loop-i.invariant.other k);
}
