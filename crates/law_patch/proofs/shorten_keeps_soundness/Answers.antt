use Rattle.law_patch.proofs.Shortening.{shorten_sound}
use Rattle.law_patch.proofs.shorten_keeps_soundness.Goals as goal

pub returns : goal.returns
returns c = λ g block at link part to rules can sound. shorten_sound g block at link part to rules can sound
