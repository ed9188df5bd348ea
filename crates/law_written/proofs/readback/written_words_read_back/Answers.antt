use Rattle.law_written.proofs.Readings.{written_words_read_back}
use Rattle.law_written.proofs.readback.written_words_read_back.Goals as goal

pub returns : goal.returns
returns c = λ bytes g can k r is. written_words_read_back bytes g can k r is
