use Rattle.law_runs.proofs.LittleRuns.{counting_meets}
use Rattle.law_runs.proofs.countdowns.counting_follows.Goals as goal

pub follows_by_simulation-requires : goal.follows_by_simulation-requires
follows_by_simulation-requires c = counting_meets
