use Rattle.sq_lifted.proofs.PlainStarts.{start_plain}
use Rattle.sq_lifted.proofs.files_start_plain.Goals as goal

pub returns : goal.returns
returns c = λ bytes is p fit read start. start_plain bytes is p fit read start
