use Rattle.sq_isa.proofs.Sets.{member_union, even_union}
use Rattle.sq_isa.proofs.registers.RegSet.union.Goals as goal

pub invariant_of-result : goal.invariant_of-result
invariant_of-result c = even_union _ _ c.self.invariant c.other.invariant

pub returns : goal.returns
returns c = λ q. rw (← c.self.view_is, ← c.other.view_is) (member_union c.self.inside.members c.other.inside.members q)
