use Rattle.law_patch.proofs.Reordering.{reorder_follows}
use Rattle.law_patch.proofs.reorder_keeps_runs.Goals as goal

pub returns : goal.returns
returns c = λ g blocks rules order. reorder_follows g blocks rules order
