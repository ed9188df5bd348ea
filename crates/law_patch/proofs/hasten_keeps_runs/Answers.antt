use Rattle.law_patch.proofs.OneBlock.{hasten_follows}
use Rattle.law_patch.proofs.hasten_keeps_runs.Goals as goal

pub returns : goal.returns
returns c = λ g block link part to rules jumps. hasten_follows g block link part to rules jumps
