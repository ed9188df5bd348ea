use Rattle.sq_rename.proofs.Started.{zero_met}
use Rattle.sq_rename.proofs.walks.Walk.new.Goals as goal

pub returns-clause-value : goal.returns-clause-value
returns-clause-value c = λ i. record { print = c.args.print; codes = λ r. zero_met c.args.print r i }
