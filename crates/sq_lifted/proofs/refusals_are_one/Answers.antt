use Rattle.sq_lifted.proofs.OneReading.{refused_once}
use Rattle.sq_lifted.proofs.refusals_are_one.Goals as goal

pub returns : goal.returns
returns c = λ bytes r s. refused_once bytes r s
