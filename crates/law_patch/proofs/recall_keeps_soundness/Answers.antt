use Rattle.law_patch.proofs.Recalling.{recall_sound}
use Rattle.law_patch.proofs.recall_keeps_soundness.Goals as goal

pub returns : goal.returns
returns c = λ g from to rules equal sound. recall_sound g from to rules equal sound
