use Rattle.sq_lifted.proofs.PlainStarts.{show_plain}
use Rattle.sq_lifted.proofs.files_show_plain.Goals as goal

pub returns : goal.returns
returns c = λ bytes is p fit a start n. show_plain bytes is p fit a start n
