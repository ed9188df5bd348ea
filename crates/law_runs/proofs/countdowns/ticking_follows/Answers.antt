use Rattle.law_runs.proofs.LittleRuns.{ticking_meets}
use Rattle.law_runs.proofs.countdowns.ticking_follows.Goals as goal

pub follows_by_simulation-requires : goal.follows_by_simulation-requires
follows_by_simulation-requires c = ticking_meets
