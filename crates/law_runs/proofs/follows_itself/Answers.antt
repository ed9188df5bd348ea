use Rattle.law_runs.proofs.Follow.{follows_refl}
use Rattle.law_runs.proofs.follows_itself.Goals as goal

pub returns : goal.returns
returns g c = follows_refl
