use Rattle.law_written.proofs.Parts.{written_parts_lift_back}
use Rattle.law_written.proofs.readback.written_parts_lift_back.Goals as goal

pub returns : goal.returns
returns c = λ bytes g can is. written_parts_lift_back bytes g can is
