use Rattle.law_patch.proofs.MatchedBodies.{body_follows}
use Rattle.law_patch.proofs.body_keeps_runs.Goals as goal

pub returns : goal.returns
returns c = λ g dropped kept rules bodies. body_follows g dropped kept rules bodies
