use Rattle.std.proofs.Common.{arith}
use Rattle.sq_memory.specs.Contents.{region_of}
use Rattle.sq_memory.proofs.Near.{uncut, absent, cut_more, cut_serves}
use Rattle.sq_memory.proofs.contents.near_at.Goals as goal

pub loop-region-init : goal.loop-region-init
loop-region-init g c served is =
    uncut region_of c.args.regions.now c.args.place served c.args.address c.near-near.result c.index-regions-place.result c.requires is c.index-regions-place.is c.near-near.ensures.place c.near-near.ensures.there (c.near-near.ensures.all c.args.address (omega arith))

pub beside-near-requires-clause-inside : goal.beside-near-requires-clause-inside
beside-near-requires-clause-inside g c = (c.loop-region.invariant c.index-regions-place.result c.index-regions-place.is).inside

pub beside-near-requires-clause-absent : goal.beside-near-requires-clause-absent
beside-near-requires-clause-absent g c =
    absent region_of c.args.regions.now c.args.place c.index-regions-place.result c.args.address c.loop-region.region-index c.region-item.result c.requires c.loop-region-test.true c.region-item.is

pub loop-region-preserved : goal.loop-region-preserved
loop-region-preserved g c served is =
    cut_more region_of c.args.regions.now c.args.place served c.args.address c.loop-region.region-index c.region-item.result c.loop-region.near c.beside-near.result c.requires c.loop-region-test.true c.region-item.is (c.loop-region.invariant served is) c.beside-near.ensures.place c.beside-near.ensures.inside c.beside-near.ensures.cut

pub returns-clause-inside : goal.returns-clause-inside
returns-clause-inside g c = (c.loop-region.invariant c.index-regions-place.result c.index-regions-place.is).inside

pub returns-clause-serves : goal.returns-clause-serves
returns-clause-serves g c =
    let served = c.index-regions-place.result in
    cut_serves region_of c.args.regions.now c.args.place served c.args.address c.loop-region.near c.loop-region.region-index c.requires c.index-regions-place.is c.loop-region-test.false (c.loop-region.invariant served c.index-regions-place.is)
