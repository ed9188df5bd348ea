use Rattle.law_patch.proofs.OneBlock.{drop_follows}
use Rattle.law_patch.proofs.drop_keeps_runs.Goals as goal

pub returns : goal.returns
returns c = λ g block at rd to rules there dead. drop_follows g block at rd to rules there dead
