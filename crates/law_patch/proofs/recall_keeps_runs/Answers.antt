use Rattle.law_patch.proofs.Recalling.{recall_follows}
use Rattle.law_patch.proofs.recall_keeps_runs.Goals as goal

pub returns : goal.returns
returns c = λ g from to rules equal. recall_follows g from to rules equal
