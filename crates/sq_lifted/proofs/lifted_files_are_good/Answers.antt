use Rattle.sq_lifted.proofs.FileWorlds.{files_good}
use Rattle.sq_lifted.proofs.lifted_files_are_good.Goals as goal

pub returns : goal.returns
returns c = λ bytes is p fit a. files_good bytes is p fit a
