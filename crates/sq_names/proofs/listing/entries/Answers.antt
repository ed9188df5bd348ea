use Rattle.std.proofs.Common.{arith}
use Rattle.sq_names.proofs.Entries.{entered, all_entered}
use Rattle.sq_names.proofs.listing.entries.Goals as goal

pub loop-index-preserved : goal.loop-index-preserved
loop-index-preserved c =
    entered c.args.names.now c.args.tracks.now c.loop-index.index _ _ _ _ c.entry_at.ensures c.in_ok-push.ensures c.loop-index.invariant

pub returns : goal.returns
returns c = all_entered c.args.names.now c.args.tracks.now c.loop-index.index _ _ (omega arith) c.loop-index.invariant
