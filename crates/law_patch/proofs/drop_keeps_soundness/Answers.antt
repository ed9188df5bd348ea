use Rattle.law_patch.proofs.OneBlock.{drop_sound}
use Rattle.law_patch.proofs.drop_keeps_soundness.Goals as goal

pub returns : goal.returns
returns c = λ g block at rd to rules there dead sound. drop_sound g block at rd to rules there dead sound
