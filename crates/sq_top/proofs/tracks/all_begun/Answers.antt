use Rattle.sq_top.specs.Tracking.{begun_by}
use Rattle.sq_top.proofs.TrackedFile.{begun_more}
use Rattle.sq_top.proofs.tracks.all_begun.Goals as goal

pub loop-index-preserved : goal.loop-index-preserved
loop-index-preserved c =
    begun_more (begun_by c.args.starts.now) c.args.names.now c.loop-index.index _ _ _ c.get.ensures c.loop-index.invariant c.in_ok-push_begun.ensures
