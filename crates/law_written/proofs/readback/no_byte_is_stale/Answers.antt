use Rattle.law_written.proofs.CodeWords.{no_byte_is_stale}
use Rattle.law_written.proofs.readback.no_byte_is_stale.Goals as goal

pub returns : goal.returns
returns c = λ bytes g can address. no_byte_is_stale bytes g can address
