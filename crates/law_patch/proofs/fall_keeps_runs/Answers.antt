use Rattle.law_patch.proofs.OneBlock.{fall_follows}
use Rattle.law_patch.proofs.fall_keeps_runs.Goals as goal

pub returns : goal.returns
returns c = λ g block n rules jumps slot. fall_follows g block n rules jumps slot
