use Rattle.sq_chain.proofs.Surveyed.{not_among}
use Rattle.sq_chain.proofs.order.place_of.Goals as goal

pub loop-i-preserved : goal.loop-i-preserved
loop-i-preserved c = λ k behind.
    not_among c.args.extents.now c.loop-i.i c.args.name c.index-extents-i.result c.loop-i-test.true c.if-other-name.false k (c.loop-i.invariant k behind)
