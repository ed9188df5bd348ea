use Rattle.law_written.proofs.WordsRun.{writing_keeps_runs}
use Rattle.law_written.proofs.runs.writing_keeps_runs.Goals as goal

pub returns : goal.returns
returns c = λ w g can start plain b begins. writing_keeps_runs w g can start plain b begins
