use Rattle.law_patch.proofs.Inverting.{invert_sound}
use Rattle.law_patch.proofs.invert_keeps_soundness.Goals as goal

pub returns : goal.returns
returns c = λ g block cond a b over behind to rules jumped sound. invert_sound g block cond a b over behind to rules jumped sound
