use Rattle.sq_quotient.proofs.Quotient.{fold_sound}
use Rattle.sq_quotient.proofs.fold_keeps_soundness.Goals as goal

pub returns : goal.returns
returns c = λ g f new rules solid merges news is. fold_sound g f new rules solid merges news is
