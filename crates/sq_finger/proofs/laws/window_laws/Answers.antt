use Rattle.std.proofs.Common.{refl}
use Rattle.sq_finger.proofs.Lining.{members, windows_numbered}
use Rattle.sq_finger.proofs.Telling.{single_runs, runs_of_members}
use Rattle.sq_finger.proofs.laws.window_laws.Goals as goal

pub returns-clause-ones : goal.returns-clause-ones
returns-clause-ones c = λ firsts. single_runs firsts firsts (record { many = refl; none = λ i. (λ e. e, λ e. e); same = λ i j. (λ e. e, λ e. e) })

pub returns-clause-windows : goal.returns-clause-windows
returns-clause-windows c = λ g n firsts numbers some firsts_are are. windows_numbered g n numbers some (runs_of_members n (members g) firsts numbers firsts_are are)
