use Rattle.sq_quotient.proofs.Quotient.{fold_follows}
use Rattle.sq_quotient.proofs.fold_keeps_runs.Goals as goal

pub returns : goal.returns
returns c = λ g f new rules solid merges news. fold_follows g f new rules solid merges news
