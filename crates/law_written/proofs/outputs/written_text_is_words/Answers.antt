use Rattle.law_written.proofs.Ascending.{written_text_is_words}
use Rattle.law_written.proofs.outputs.written_text_is_words.Goals as goal

pub returns : goal.returns
returns c = λ bytes g can address is. written_text_is_words bytes g can address is
