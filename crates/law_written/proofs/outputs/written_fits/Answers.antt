use Rattle.law_written.proofs.Writing.{written_fits}
use Rattle.law_written.proofs.outputs.written_fits.Goals as goal

pub returns : goal.returns
returns c = λ bytes g can. written_fits bytes g can
