use Rattle.law_patch.proofs.Restricting.{restrict_follows}
use Rattle.law_patch.proofs.unreached_keeps_runs.Goals as goal

pub returns : goal.returns
returns c = λ g keep held rules closed. restrict_follows g keep held rules closed
