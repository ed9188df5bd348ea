use Rattle.law_patch.proofs.MatchedCalls.{match_follows}
use Rattle.law_patch.proofs.match_keeps_runs.Goals as goal

pub returns : goal.returns
returns c = λ g block at procedure rules callable. match_follows g block at procedure rules callable
