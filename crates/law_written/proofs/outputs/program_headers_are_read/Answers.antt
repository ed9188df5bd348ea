use Rattle.law_written.proofs.Segments.{program_headers_are_read}
use Rattle.law_written.proofs.outputs.program_headers_are_read.Goals as goal

pub returns : goal.returns
returns c = λ o fits k p s is of. program_headers_are_read o fits k p s is of
