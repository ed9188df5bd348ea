use Rattle.law_runs.proofs.Simulate.{follows_by}
use Rattle.law_runs.proofs.simulation.follows_by_simulation.Goals as goal

pub returns : goal.returns
returns g c = let r = g.R.Relation in follows_by r.first r.second r.related c.requires
