use Rattle.law_written.proofs.CodeWords.{written_code_words_are_read}
use Rattle.law_written.proofs.readback.written_code_words_are_read.Goals as goal

pub returns : goal.returns
returns c = λ bytes g can address. written_code_words_are_read bytes g can address
