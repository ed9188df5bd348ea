use Rattle.law_written.proofs.Sections.{sections_are_read}
use Rattle.law_written.proofs.outputs.sections_are_read.Goals as goal

pub returns : goal.returns
returns c = λ o fits k s part is has. sections_are_read o fits k s part is has
