use Rattle.sq_isa.proofs.Sets.{member_without, even_without}
use Rattle.sq_isa.proofs.registers.RegSet.without.Goals as goal

pub invariant_of-result : goal.invariant_of-result
invariant_of-result c = even_without _ _ c.self.invariant

pub returns : goal.returns
returns c = λ q. rw (← c.self.view_is, ← c.other.view_is) (member_without c.self.inside.members c.other.inside.members q)
