use Rattle.law_written.proofs.NoteFaults.{written_files_pass_early}
use Rattle.law_written.proofs.readback.written_files_pass_early.Goals as goal

pub returns : goal.returns
returns c = λ bytes g can sound is. written_files_pass_early bytes g can sound is
