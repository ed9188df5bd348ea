use Rattle.law_patch.proofs.OneBlock.{fall_sound}
use Rattle.law_patch.proofs.fall_keeps_soundness.Goals as goal

pub returns : goal.returns
returns c = λ g block n rules jumps slot sound. fall_sound g block n rules jumps slot sound
