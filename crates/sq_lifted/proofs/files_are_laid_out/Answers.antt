use Rattle.sq_lifted.proofs.FileLayouts.{laid_out}
use Rattle.sq_lifted.proofs.files_are_laid_out.Goals as goal

pub returns : goal.returns
returns c = λ bytes p start. laid_out bytes p start
