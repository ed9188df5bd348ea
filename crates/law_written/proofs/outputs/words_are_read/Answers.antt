use Rattle.law_written.proofs.TextWords.{words_are_read}
use Rattle.law_written.proofs.outputs.words_are_read.Goals as goal

pub returns : goal.returns
returns c = λ o can k word is fits. words_are_read o can k word is fits
