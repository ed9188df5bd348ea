use Rattle.law_runs.proofs.Steps.{step_goes_on, step_ends, step_breaks}
use Rattle.law_runs.proofs.next_step.Goals as goal

pub returns-clause-goes_on : goal.returns-clause-goes_on
returns-clause-goes_on g c = step_goes_on

pub returns-clause-ends : goal.returns-clause-ends
returns-clause-ends g c = step_ends

pub returns-clause-breaks : goal.returns-clause-breaks
returns-clause-breaks g c = step_breaks
