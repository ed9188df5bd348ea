use Rattle.sq_lifted.proofs.Counting.{lifted_good}
use Rattle.sq_lifted.proofs.lifted_is_good.Goals as goal

pub returns : goal.returns
returns c = λ p is linked short ascending dec fine. lifted_good p is linked short ascending dec fine
