use Rattle.law_runs.proofs.Simulate.{locks_by}
use Rattle.law_runs.proofs.simulation.locks_by_steps.Goals as goal

pub returns : goal.returns
returns g c = let r = g.R.Relation in locks_by r.first r.second r.related c.requires
