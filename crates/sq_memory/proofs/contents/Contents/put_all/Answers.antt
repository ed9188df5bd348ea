use Rattle.sq_memory.proofs.RegionLaws.{put_step}
use Rattle.sq_memory.proofs.contents.Contents.put_all.Goals as goal

pub loop-i-preserved : goal.loop-i-preserved
loop-i-preserved g c =
    put_step c.args.self.now c.args.address c.args.cells.now c.loop-i.i c.index-cells-i.result c.loop-i.self c.put.new.self c.loop-i-test.true c.index-cells-i.is c.loop-i.invariant c.put.ensures
