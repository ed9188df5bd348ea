use Rattle.std.proofs.Common.{◌+◌, arith}
use Rattle.sq_lift.proofs.Placed.{no_word_past}
use Rattle.sq_lift.proofs.text.Text.next.Goals as goal

pub returns-else-next-end-clause-none : goal.returns-else-next-end-clause-none
returns-else-next-end-clause-none c = no_word_past c.args.self.now (c.args.address + 4) (omega arith)
