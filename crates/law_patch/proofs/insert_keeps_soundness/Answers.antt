use Rattle.law_patch.proofs.Inserting.{insert_sound}
use Rattle.law_patch.proofs.insert_keeps_soundness.Goals as goal

pub returns : goal.returns
returns c = λ g new block next rules fresh has slot sound. insert_sound g new block next rules fresh has slot sound
