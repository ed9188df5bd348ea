use Rattle.law_patch.proofs.Restricting.{reached_closed}
use Rattle.law_patch.proofs.reached_are_closed.Goals as goal

pub returns : goal.returns
returns c = λ g keep held exact. reached_closed g keep held exact
