use Rattle.law_written.proofs.Texts.{text_is_read}
use Rattle.law_written.proofs.outputs.text_is_read.Goals as goal

pub returns : goal.returns
returns c = λ o fits. text_is_read o fits
