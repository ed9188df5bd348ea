use Rattle.law_patch.proofs.Recalling.{uncalled_goes_sound}
use Rattle.law_patch.proofs.uncalled_goes_keeps_soundness.Goals as goal

pub returns : goal.returns
returns c = λ g procedure rules unused sound. uncalled_goes_sound g procedure rules unused sound
