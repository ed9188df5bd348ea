use Rattle.law_written.proofs.Headers.{headers_are_read}
use Rattle.law_written.proofs.outputs.headers_are_read.Goals as goal

pub returns : goal.returns
returns c = λ o fits. headers_are_read o fits
