use Rattle.law_patch.proofs.Inserting.{insert_follows}
use Rattle.law_patch.proofs.insert_keeps_runs.Goals as goal

pub returns : goal.returns
returns c = λ g new block next rules fresh has slot. insert_follows g new block next rules fresh has slot
