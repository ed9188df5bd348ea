use Rattle.law_written.proofs.Bytes.{written_is_bytes}
use Rattle.law_written.proofs.outputs.written_is_bytes.Goals as goal

pub returns : goal.returns
returns c = λ bytes g can. written_is_bytes bytes g can
