use Rattle.law_runs.proofs.Breaks.{first_break_exact, no_break}
use Rattle.law_runs.proofs.break_is_first.Goals as goal

pub returns-clause-exact : goal.returns-clause-exact
returns-clause-exact g c = first_break_exact

pub returns-clause-none : goal.returns-clause-none
returns-clause-none g c = no_break
