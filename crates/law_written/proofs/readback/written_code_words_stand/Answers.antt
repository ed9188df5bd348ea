use Rattle.law_written.proofs.Outside.{written_code_words_stand}
use Rattle.law_written.proofs.readback.written_code_words_stand.Goals as goal

pub returns : goal.returns
returns c = λ bytes g can. written_code_words_stand bytes g can
