use Rattle.law_runs.proofs.Follow.{follows_trans}
use Rattle.law_runs.proofs.follows_through.Goals as goal

pub returns : goal.returns
returns g c = λ a b c s t u. follows_trans a s b t c u
