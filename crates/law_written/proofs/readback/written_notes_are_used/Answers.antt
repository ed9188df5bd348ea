use Rattle.law_written.proofs.WordsReached.{written_notes_are_used}
use Rattle.law_written.proofs.readback.written_notes_are_used.Goals as goal

pub returns : goal.returns
returns c = λ bytes g can whole is decides. written_notes_are_used bytes g can whole is decides
