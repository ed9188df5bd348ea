use Rattle.std.proofs.Common.{arith}
use Rattle.std.proofs.lemmas.Nat.{le_or_l}
use Rattle.sq_isa.proofs.Sets.{member_union, even_union, of_both}
use Rattle.sq_isa.proofs.registers.RegSet.grown_by.Goals as goal

pub invariant_of-result : goal.invariant_of-result
invariant_of-result c = even_union _ _ c.self.invariant c.other.invariant

pub returns-clause-some : goal.returns-clause-some
returns-clause-some c = λ q. rw (← c.self.view_is, ← c.other.view_is) (member_union c.self.inside.members c.other.inside.members q)

pub returns-clause-more : goal.returns-clause-more
returns-clause-more c =
    let most = le_or_l c.self.inside.members c.other.inside.members in
    omega (arith, most, c.if-members-self.false, c.self.view_is)

pub returns-then-members-self-clause-none : goal.returns-then-members-self-clause-none
returns-then-members-self-clause-none c = λ none q member.
    rw (← c.self.view_is) (of_both c.self.inside.members c.other.inside.members q c.if-members-self.true (rw c.other.view_is member))
