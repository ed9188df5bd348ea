use Rattle.law_patch.proofs.OneBlock.{inline_follows}
use Rattle.law_patch.proofs.inline_keeps_runs.Goals as goal

pub returns : goal.returns
returns c = λ g block at q rules there. inline_follows g block at q rules there
