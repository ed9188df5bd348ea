use Rattle.law_patch.proofs.MatchedBodies.{body_sound}
use Rattle.law_patch.proofs.body_keeps_soundness.Goals as goal

pub returns : goal.returns
returns c = λ g dropped kept rules bodies sound. body_sound g dropped kept rules bodies sound
