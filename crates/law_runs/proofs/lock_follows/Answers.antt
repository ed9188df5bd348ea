use Rattle.law_runs.proofs.Follow.{locks_follow}
use Rattle.law_runs.proofs.lock_follows.Goals as goal

pub returns : goal.returns
returns g c = λ a b s t. locks_follow a s b t
