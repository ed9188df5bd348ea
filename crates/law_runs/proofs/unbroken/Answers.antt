use Rattle.law_runs.proofs.Traces.{unbroken_before, halted_unbroken, never_breaks}
use Rattle.law_runs.proofs.unbroken.Goals as goal

pub returns-clause-before : goal.returns-clause-before
returns-clause-before g c = unbroken_before

pub returns-clause-halted : goal.returns-clause-halted
returns-clause-halted g c = halted_unbroken

pub returns-clause-never : goal.returns-clause-never
returns-clause-never g c = never_breaks
