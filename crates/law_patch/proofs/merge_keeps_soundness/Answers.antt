use Rattle.law_patch.proofs.Merging.{can_merge, merge_sound}
use Rattle.law_patch.proofs.merge_keeps_soundness.Goals as goal

pub returns : goal.returns
returns c = λ g dropped at kept rules can sound. merge_sound g dropped at kept rules (can_merge g dropped at kept can) sound
