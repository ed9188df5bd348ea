use Rattle.law_patch.proofs.OneBlock.{hasten_sound}
use Rattle.law_patch.proofs.hasten_keeps_soundness.Goals as goal

pub returns : goal.returns
returns c = λ g block link part to rules jumps sound. hasten_sound g block link part to rules jumps sound
