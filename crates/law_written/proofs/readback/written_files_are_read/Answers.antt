use Rattle.law_written.proofs.Programs.{written_files_are_read}
use Rattle.law_written.proofs.readback.written_files_are_read.Goals as goal

pub returns : goal.returns
returns c = λ bytes g can is decides. written_files_are_read bytes g can is decides
