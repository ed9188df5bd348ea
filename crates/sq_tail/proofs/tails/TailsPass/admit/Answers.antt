use Rattle.std.proofs.Common.{◌≡◌, None}
use Rattle.sq_tail.proofs.tails.TailsPass.admit.Goals as goal

pub returns-clause-none : goal.returns-clause-none
returns-clause-none c = λ e given completed candidate. let same : c.admit_cut.result ≡ None = cc in c.admit_cut.ensures.none same given completed candidate
