use Rattle.law_patch.proofs.Tailing.{tail_sound}
use Rattle.law_patch.proofs.tail_keeps_soundness.Goals as goal

pub returns : goal.returns
returns c = λ g new dropped at kept from rules fresh have sound. tail_sound g new dropped at kept from rules fresh have sound
