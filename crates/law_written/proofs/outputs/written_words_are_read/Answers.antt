use Rattle.law_written.proofs.TextWords.{written_words_are_read}
use Rattle.law_written.proofs.outputs.written_words_are_read.Goals as goal

pub returns : goal.returns
returns c = λ bytes g can k p is fits. written_words_are_read bytes g can k p is fits
