use Rattle.law_lifting.proofs.Whole.{lifting_keeps}
use Rattle.law_lifting.proofs.lifting_keeps_runs.Goals as goal

pub returns : goal.returns
returns c = λ p is linked dec fine w start of. lifting_keeps p is linked dec fine w start of
