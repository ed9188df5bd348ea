-- What `==` tells of resolved terms: whether they are equal.
use Rattle.std.proofs.Common.{◌≡◌, ℕ, ℤ, true, false, ◌&&◌, nat_eq, Option, None, Some, rules, refl, ap, subst}
use Rattle.std.specs.Option.{option_eq}
use Rattle.std.specs.Ordering.{int_eq}
use Rattle.std.proofs.lemmas.Bool.{and_parts, eqb-true}
use Rattle.std.proofs.lemmas.Bool.Decides.{Decides-int_eq}
use denote.Enum.Bare.{same_true}
use Rattle.sq_isa.specs.contracts.instructions.CondPartialEq.TheImpl as cond_eq
use Rattle.sq_isa.specs.contracts.instructions.Cond.{the_type as cond_type}
use Rattle.sq_isa.specs.declared.instructions.Cond.{Cond}
use Rattle.sq_graph.specs.contracts.item.TermPartialEq.TheImpl as term_eq
use Rattle.sq_graph.specs.Resolve.{ResolvedTerm}
use Rattle.sq_graph.specs.declared.item.Term.{Term}
use Rattle.sq_graph.specs.declared.item.Term.TheVariants.{Fall, Jump, Branch, Call, PartJump, Indirect, Stop}
use Rattle.sq_tail.specs.contracts.resolved.ResolvedPartialEq.TheImpl as resolved_eq
use Rattle.sq_tail.specs.contracts.resolved.ResolvedEq.TheImpl.Laws.{laws-law as resolved_law}
use Rattle.sq_tail.specs.declared.resolved.Resolved.{Resolved}
use Rattle.sq_tail.specs.Resolved.{meaning_of}

cond_is : (a b : Cond) → (cond_eq.ghosts).eq a b ≡ true → a ≡ b
cond_is a b e = same_true cond_type (search rules) a b e

int_is : (a b : ℤ) → int_eq a b ≡ true → a ≡ b
int_is a b e = (Decides-int_eq a b).0 e

differ : false ≡ true → ⊥
differ e = cc

term_is : (a b : Term) → (term_eq.ghosts).eq a b ≡ true → a ≡ b
term_is Fall Fall e = refl
term_is (Jump a) (Jump a') e = ap Jump (eqb-true a a' e)
term_is (Branch a b c d) (Branch a' b' c' d') e =
    let p0 = and_parts ((cond_eq.ghosts).eq a a') (nat_eq b b' && (nat_eq c c' && nat_eq d d')) e in
    let q0 = cond_is a a' p0.0 in
    let p1 = and_parts (nat_eq b b') (nat_eq c c' && nat_eq d d') p0.1 in
    let q1 = eqb-true b b' p1.0 in
    let p2 = and_parts (nat_eq c c') (nat_eq d d') p1.1 in
    let q2 = eqb-true c c' p2.0 in
    let q3 = eqb-true d d' p2.1 in
    cc
term_is (Call a b) (Call a' b') e =
    let p0 = and_parts (nat_eq a a') (nat_eq b b') e in
    let q0 = eqb-true a a' p0.0 in
    let q1 = eqb-true b b' p0.1 in
    cc
term_is (PartJump a b c) (PartJump a' b' c') e =
    let p0 = and_parts (nat_eq a a') (nat_eq b b' && nat_eq c c') e in
    let q0 = eqb-true a a' p0.0 in
    let p1 = and_parts (nat_eq b b') (nat_eq c c') p0.1 in
    let q1 = eqb-true b b' p1.0 in
    let q2 = eqb-true c c' p1.1 in
    cc
term_is (Indirect a b c) (Indirect a' b' c') e =
    let p0 = and_parts (nat_eq a a') (nat_eq b b' && int_eq c c') e in
    let q0 = eqb-true a a' p0.0 in
    let p1 = and_parts (nat_eq b b') (int_eq c c') p0.1 in
    let q1 = eqb-true b b' p1.0 in
    let q2 = int_is c c' p1.1 in
    cc
term_is (Stop a) (Stop a') e = ap Stop (eqb-true a a' e)
term_is a b e = absurd (differ e)

next_is : (a b : Option ℕ) → option_eq nat_eq a b ≡ true → a ≡ b
next_is None None e = refl
next_is None (Some n) e = absurd (differ e)
next_is (Some n) None e = absurd (differ e)
next_is (Some m) (Some n) e = ap Some (eqb-true m n e)

pub resolved_is : (a b : Resolved) → (resolved_eq.ghosts).eq a b ≡ true → a ≡ b
resolved_is a b e =
    let p = and_parts ((term_eq.ghosts).eq a.term b.term) (option_eq nat_eq a.next b.next) e in
    let term = term_is a.term b.term p.0 in
    let next = next_is a.next b.next p.1 in
    λ i. record { term = term i; next = next i }

pub resolved_itself : (a b : Resolved) → a ≡ b → (resolved_eq.ghosts).eq a b ≡ true
resolved_itself a b e = subst (λ x. (resolved_eq.ghosts).eq a x ≡ true) e (resolved_law.refl a)

pub same_meaning : (a b : Resolved) → a ≡ b → Some (meaning_of a) ≡ Some (meaning_of b)
same_meaning a b e = ap (λ r. Some (meaning_of r)) e

some_is : (x y : ResolvedTerm) → Some x ≡ Some y → x ≡ y
some_is x y e = cc

pub one_meaning : (a b : Resolved) → Some (meaning_of a) ≡ Some (meaning_of b) → a ≡ b
one_meaning a b e =
    let same = some_is (meaning_of a) (meaning_of b) e in
    λ i. record { term = (same i).term; next = (same i).next }
