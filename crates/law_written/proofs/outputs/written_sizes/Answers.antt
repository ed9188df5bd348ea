use Rattle.law_written.proofs.Writing.{written_sizes}
use Rattle.law_written.proofs.outputs.written_sizes.Goals as goal

pub returns : goal.returns
returns c = λ bytes g can. written_sizes bytes g can
