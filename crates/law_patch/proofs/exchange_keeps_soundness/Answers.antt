use Rattle.law_patch.proofs.Exchanging.{exchange_sound}
use Rattle.law_patch.proofs.exchange_keeps_soundness.Goals as goal

pub returns : goal.returns
returns c = λ g block cond a b over away to rules over_jump sound. exchange_sound g block cond a b over away to rules over_jump sound
