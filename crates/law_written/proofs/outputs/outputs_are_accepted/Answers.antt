use Rattle.law_written.proofs.Accepting.{outputs_are_accepted}
use Rattle.law_written.proofs.outputs.outputs_are_accepted.Goals as goal

pub returns : goal.returns
returns c = λ o can. outputs_are_accepted o can
