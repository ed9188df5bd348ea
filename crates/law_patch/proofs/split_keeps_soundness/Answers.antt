use Rattle.law_patch.proofs.OneBlock.{split_sound}
use Rattle.law_patch.proofs.split_keeps_soundness.Goals as goal

pub returns : goal.returns
returns c = λ g new block at rules fresh sound. split_sound g new block at rules fresh sound
