use Rattle.sq_tagged.specs.Views.{registers_of}
use Rattle.sq_tagged.proofs.Writes.{held-zeros}
use Rattle.sq_tagged.proofs.registers.Registers.zeros.Goals as goal

pub returns : goal.returns
unfolding registers_of
returns c = held-zeros 32
