use Rattle.law_patch.proofs.OneBlock.{inline_sound}
use Rattle.law_patch.proofs.inline_keeps_soundness.Goals as goal

pub returns : goal.returns
returns c = λ g block at q rules there sound. inline_sound g block at q rules there sound
