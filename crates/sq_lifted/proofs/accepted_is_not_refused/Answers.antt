use Rattle.sq_lifted.proofs.Accepting.{not_refused}
use Rattle.sq_lifted.proofs.accepted_is_not_refused.Goals as goal

pub returns : goal.returns
returns c = λ bytes accepted refusal. not_refused bytes accepted refusal
