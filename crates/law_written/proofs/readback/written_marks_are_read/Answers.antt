use Rattle.law_written.proofs.Words.{written_marks_are_read}
use Rattle.law_written.proofs.readback.written_marks_are_read.Goals as goal

pub returns : goal.returns
returns c = λ bytes g can k p is. written_marks_are_read bytes g can k p is
