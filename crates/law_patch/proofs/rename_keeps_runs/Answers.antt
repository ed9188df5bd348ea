use Rattle.law_patch.proofs.Renaming.{rename_follows, rename_keeps_step}
use Rattle.law_patch.proofs.rename_keeps_runs.Goals as goal

pub returns-clause-follows : goal.returns-clause-follows
returns-clause-follows c = λ g f rules apart. rename_follows g f rules apart

pub returns-clause-step : goal.returns-clause-step
returns-clause-step c = λ g f rules apart. rename_keeps_step g f rules apart
