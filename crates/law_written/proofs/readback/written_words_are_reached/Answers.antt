use Rattle.law_written.proofs.WordsReached.{written_words_are_reached}
use Rattle.law_written.proofs.readback.written_words_are_reached.Goals as goal

pub returns : goal.returns
returns c = λ bytes g can whole x there. written_words_are_reached bytes g can whole x there
