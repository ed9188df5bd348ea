use Rattle.law_patch.proofs.OneBlock.{split_follows}
use Rattle.law_patch.proofs.split_keeps_runs.Goals as goal

pub returns : goal.returns
returns c = λ g new block at rules fresh. split_follows g new block at rules fresh
