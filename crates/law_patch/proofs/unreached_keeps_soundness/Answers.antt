use Rattle.law_patch.proofs.Restricting.{restrict_sound}
use Rattle.law_patch.proofs.unreached_keeps_soundness.Goals as goal

pub returns : goal.returns
returns c = λ g keep held rules closed sound. restrict_sound g keep held rules closed sound
