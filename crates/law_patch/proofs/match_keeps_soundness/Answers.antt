use Rattle.law_patch.proofs.MatchedCalls.{match_sound}
use Rattle.law_patch.proofs.match_keeps_soundness.Goals as goal

pub returns : goal.returns
returns c = λ g block at procedure rules callable sound. match_sound g block at procedure rules callable sound
