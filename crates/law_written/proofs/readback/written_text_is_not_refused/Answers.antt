use Rattle.law_written.proofs.Faults.{written_text_is_not_refused}
use Rattle.law_written.proofs.readback.written_text_is_not_refused.Goals as goal

pub returns : goal.returns
returns c = λ bytes g can is. written_text_is_not_refused bytes g can is
