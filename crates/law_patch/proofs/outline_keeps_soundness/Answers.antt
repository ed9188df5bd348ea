use Rattle.law_patch.proofs.Recalling.{outline_sound}
use Rattle.law_patch.proofs.outline_keeps_soundness.Goals as goal

pub returns : goal.returns
returns c = λ g block at length link rules fits sound. outline_sound g block at length link rules fits sound
