use Rattle.sq_isa.proofs.Sets.{member_all}
use Rattle.sq_isa.proofs.registers.RegSet.all.Goals as goal

pub returns : goal.returns
returns c = member_all
