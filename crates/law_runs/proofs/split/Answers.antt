use Rattle.law_runs.proofs.Traces.{split, state_split}
use Rattle.law_runs.proofs.split.Goals as goal

pub returns-clause-trace : goal.returns-clause-trace
returns-clause-trace g c = split

pub returns-clause-state : goal.returns-clause-state
returns-clause-state g c = state_split
