use Rattle.sq_lifted.proofs.FileWorlds.{files_follow}
use Rattle.sq_lifted.proofs.lifted_files_follow.Goals as goal

pub returns : goal.returns
returns c = λ bytes is p g fit from. files_follow bytes is p g fit from
