use Rattle.law_patch.proofs.Calls.{call_follows}
use Rattle.law_patch.proofs.call_keeps_runs.Goals as goal

pub returns : goal.returns
returns c = λ g block at procedure rules callable. call_follows g block at procedure rules callable
