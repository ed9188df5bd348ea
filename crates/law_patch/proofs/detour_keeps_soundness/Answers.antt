use Rattle.law_patch.proofs.Detouring.{detour_sound}
use Rattle.law_patch.proofs.detour_keeps_soundness.Goals as goal

pub returns : goal.returns
returns c = λ g block to rules leads sound. detour_sound g block to rules leads sound
