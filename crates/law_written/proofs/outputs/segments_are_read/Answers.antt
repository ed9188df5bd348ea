use Rattle.law_written.proofs.Segments.{segments_are_read}
use Rattle.law_written.proofs.outputs.segments_are_read.Goals as goal

pub returns : goal.returns
returns c = λ o fits. segments_are_read o fits
