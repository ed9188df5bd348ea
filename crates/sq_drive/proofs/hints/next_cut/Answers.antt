use Rattle.std.proofs.Common.{Ok, ap}
use Rattle.sq_drive.proofs.hints.next_cut.Goals as goal

pub returns-in_default-2-clause-none : goal.returns-in_default-2-clause-none
returns-in_default-2-clause-none c = λ e. c.in_ok-cut-2.ensures.none (ap Ok c.in_default-2.is)
