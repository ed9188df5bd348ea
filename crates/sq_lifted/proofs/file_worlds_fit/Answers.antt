use Rattle.sq_lifted.proofs.FileWorlds.{worlds_fit}
use Rattle.sq_lifted.proofs.file_worlds_fit.Goals as goal

pub returns : goal.returns
returns c = λ bytes is p read start. worlds_fit bytes is p read start
