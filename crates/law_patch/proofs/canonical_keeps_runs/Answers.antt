use Rattle.law_patch.proofs.Joining.{canonical_follows}
use Rattle.law_patch.proofs.canonical_keeps_runs.Goals as goal

pub returns : goal.returns
returns c = λ g rules. canonical_follows g rules
