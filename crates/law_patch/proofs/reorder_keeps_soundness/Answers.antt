use Rattle.law_patch.proofs.Reordering.{reorder_sound}
use Rattle.law_patch.proofs.reorder_keeps_soundness.Goals as goal

pub returns : goal.returns
returns c = λ g blocks rules order sound. reorder_sound g blocks rules order sound
