use Rattle.law_patch.proofs.Merging.{can_merge, merge_follows}
use Rattle.law_patch.proofs.merge_keeps_runs.Goals as goal

pub returns : goal.returns
returns c = λ g dropped at kept rules can. merge_follows g dropped at kept rules (can_merge g dropped at kept can)
