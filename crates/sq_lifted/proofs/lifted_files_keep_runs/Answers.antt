use Rattle.sq_lifted.proofs.FileWorlds.{files_keep_runs}
use Rattle.sq_lifted.proofs.lifted_files_keep_runs.Goals as goal

pub returns : goal.returns
returns c = λ bytes is p fit a start. files_keep_runs bytes is p fit a start
