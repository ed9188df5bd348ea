use Rattle.law_patch.proofs.Renaming.{outline_follows}
use Rattle.law_patch.proofs.outline_keeps_runs.Goals as goal

pub returns : goal.returns
returns c = λ g block at length link rules. outline_follows g block at length link rules
