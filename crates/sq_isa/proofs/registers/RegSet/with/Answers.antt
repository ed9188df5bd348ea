use Rattle.sq_isa.proofs.Sets.{member_with, even_with}
use Rattle.sq_isa.proofs.registers.RegSet.with.Goals as goal

pub invariant_of-result : goal.invariant_of-result
invariant_of-result c =
    even_with c.self.inside.members _ c.number-number.ensures.range c.if-number-eq0.false c.self.invariant

pub returns-else-number-eq0 : goal.returns-else-number-eq0
returns-else-number-eq0 c =
    λ q. rw (← c.number-number.ensures.value, ← c.self.view_is)
    (member_with c.self.inside.members _ q c.number-number.ensures.range c.if-number-eq0.false)
