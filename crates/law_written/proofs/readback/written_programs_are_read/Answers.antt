use Rattle.law_written.proofs.Programs.{written_programs_are_read}
use Rattle.law_written.proofs.readback.written_programs_are_read.Goals as goal

pub returns : goal.returns
returns c = λ bytes g can. written_programs_are_read bytes g can
