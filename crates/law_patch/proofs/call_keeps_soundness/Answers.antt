use Rattle.law_patch.proofs.Calls.{call_sound}
use Rattle.law_patch.proofs.call_keeps_soundness.Goals as goal

pub returns : goal.returns
returns c = λ g block at procedure rules callable sound. call_sound g block at procedure rules callable sound
