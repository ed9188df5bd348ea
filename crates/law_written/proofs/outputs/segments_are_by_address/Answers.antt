use Rattle.law_written.proofs.Ascending.{segments_are_by_address}
use Rattle.law_written.proofs.outputs.segments_are_by_address.Goals as goal

pub returns : goal.returns
returns c = λ o can. segments_are_by_address o can
