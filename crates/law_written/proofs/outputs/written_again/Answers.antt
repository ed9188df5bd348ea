use Rattle.law_written.proofs.Again.{written_again}
use Rattle.law_written.proofs.outputs.written_again.Goals as goal

pub returns : goal.returns
returns c = λ bytes g can. written_again bytes g can
