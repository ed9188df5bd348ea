use Rattle.law_runs.proofs.LittleRuns.{ticking_same}
use Rattle.law_runs.proofs.countdowns.ticking_same.Goals as goal

pub returns : goal.returns
returns c = ticking_same
