use Rattle.law_written.proofs.Notes.{written_notes_are_read}
use Rattle.law_written.proofs.readback.written_notes_are_read.Goals as goal

pub returns : goal.returns
returns c = λ bytes g can t. written_notes_are_read bytes g can t
