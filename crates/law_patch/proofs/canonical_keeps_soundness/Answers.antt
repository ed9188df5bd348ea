use Rattle.law_patch.proofs.Joining.{canonical_sound}
use Rattle.law_patch.proofs.canonical_keeps_soundness.Goals as goal

pub returns : goal.returns
returns c = λ g rules sound. canonical_sound g rules sound
