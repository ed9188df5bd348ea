use Rattle.law_written.proofs.Writing.{written_is_accepted}
use Rattle.law_written.proofs.outputs.written_is_accepted.Goals as goal

pub returns : goal.returns
returns c = λ bytes g can. written_is_accepted bytes g can
