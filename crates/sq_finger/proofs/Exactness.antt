-- What `==` tells of keys: whether they are equal.
use Rattle.std.proofs.Common.{◌≡◌, ℕ, Bool, true, true≢false, ◌&&◌, nat_eq, Option, Some, None, refl, sym, ap, subst}
use Rattle.std.specs.Ordering.{int_eq}
use Rattle.std.specs.Option.{option_eq}
use Rattle.std.proofs.lemmas.Bool.{and_parts, eqb-true, eq-eqb}
use Rattle.std.proofs.lemmas.Bool.Decides.{Decides-int_eq}
use Rattle.sq_finger.specs.declared.keys.ItemKey.{ItemKey}
use Rattle.sq_finger.specs.declared.keys.ItemKey.TheVariants.{Op, Hi, Lo, Out}
use Rattle.sq_finger.specs.contracts.keys.ItemKeyPartialEq.TheImpl as item_key_eq
use Rattle.sq_finger.specs.contracts.keys.ItemKeyEq.TheImpl.Laws.{laws-law as item_key_law}
use Rattle.sq_finger.specs.declared.keys.TermKey.{TermKey}
use Rattle.sq_finger.specs.declared.keys.TermKey.TheVariants.{Fall, Jump, Branch, Call, PartJump, Indirect, Stop}
use Rattle.sq_finger.specs.contracts.keys.TermKeyPartialEq.TheImpl as term_key_eq
use Rattle.sq_finger.specs.contracts.keys.TermKeyEq.TheImpl.Laws.{laws-law as term_key_law}
use Rattle.sq_finger.specs.Exact.{IsExact}

-- an equality that is reflexive, and true of equal ones alone
exact : {K : Type 0} (eq : K → K → Bool) → ((a : K) → eq a a ≡ true) → ((a b : K) → eq a b ≡ true → a ≡ b) → IsExact eq
exact eq itself is = λ a b. (is a b, λ e. subst (λ x. eq a x ≡ true) e (itself a))

pub exact_number : IsExact nat_eq
exact_number a b = (eqb-true a b, eq-eqb a b)

pub exact_pair : {A B : Type 0} (e : A → A → Bool) (f : B → B → Bool) → IsExact e → IsExact f → IsExact {K = A × B} (λ p q. e p.0 q.0 && f p.1 q.1)
exact_pair {A} {B} e f first second =
    exact {K = A × B} (λ p q. e p.0 q.0 && f p.1 q.1)
    (λ p. rw ((first p.0 p.0).1 refl, (second p.1 p.1).1 refl) refl)
    (λ p q h.
    let both = and_parts (e p.0 q.0) (f p.1 q.1) h in
    let a : p.0 ≡ q.0 = (first p.0 q.0).0 both.0 in
    let b : p.1 ≡ q.1 = (second p.1 q.1).0 both.1 in
    rw (a, b) refl)

pub exact_triple : {A B C : Type 0} (e : A → A → Bool) (f : B → B → Bool) (g : C → C → Bool) → IsExact e → IsExact f → IsExact g
    → IsExact {K = A × B × C} (λ p q. e p.0 q.0 && (f p.1 q.1 && g p.2 q.2))
exact_triple {A} {B} {C} e f g first second third =
    exact {K = A × B × C} (λ p q. e p.0 q.0 && (f p.1 q.1 && g p.2 q.2))
    (λ p. rw ((first p.0 p.0).1 refl, (second p.1 p.1).1 refl, (third p.2 p.2).1 refl) refl)
    (λ p q h.
    let both = and_parts (e p.0 q.0) (f p.1 q.1 && g p.2 q.2) h in
    let rest = and_parts (f p.1 q.1) (g p.2 q.2) both.1 in
    let a : p.0 ≡ q.0 = (first p.0 q.0).0 both.0 in
    let b : p.1 ≡ q.1 = (second p.1 q.1).0 rest.0 in
    let c : p.2 ≡ q.2 = (third p.2 q.2).0 rest.1 in
    rw (a, b, c) refl)

pub exact_option : {A : Type 0} (e : A → A → Bool) → IsExact e → IsExact (option_eq e)
exact_option e inner None None = (λ h. refl, λ h. refl)
exact_option e inner None (Some y) = (λ h. absurd (true≢false (sym h)), λ h. absurd (cc))
exact_option e inner (Some x) None = (λ h. absurd (true≢false (sym h)), λ h. absurd (cc))
exact_option e inner (Some x) (Some y) = (λ h. ap Some ((inner x y).0 h), λ h. (inner x y).1 (cc))

-- ---- keys of items and of terms

item_key_is : (a b : ItemKey) → (item_key_eq.ghosts).eq a b ≡ true → a ≡ b
item_key_is (Op a) (Op b) e = ap Op (eqb-true a b e)
item_key_is (Hi a b) (Hi a' b') e =
    let p = and_parts (nat_eq a a') (nat_eq b b') e in
    let q = eqb-true a a' p.0 in
    let r = eqb-true b b' p.1 in
    cc
item_key_is (Lo a b c) (Lo a' b' c') e =
    let p = and_parts (nat_eq a a') (nat_eq b b' && nat_eq c c') e in
    let q = eqb-true a a' p.0 in
    let s = and_parts (nat_eq b b') (nat_eq c c') p.1 in
    let t = eqb-true b b' s.0 in
    let u = eqb-true c c' s.1 in
    cc
item_key_is (Out a) (Out b) e = ap Out (eqb-true a b e)
item_key_is a b e = absurd (true≢false (sym e))

pub exact_item_key : IsExact (item_key_eq.ghosts).eq
exact_item_key = exact (item_key_eq.ghosts).eq item_key_law.refl item_key_is

term_key_is : (a b : TermKey) → (term_key_eq.ghosts).eq a b ≡ true → a ≡ b
term_key_is Fall Fall e = refl
term_key_is (Jump a) (Jump b) e = ap Jump (eqb-true a b e)
term_key_is (Branch a b c d) (Branch a' b' c' d') e =
    let p = and_parts (nat_eq a a') (nat_eq b b' && (nat_eq c c' && nat_eq d d')) e in
    let q = eqb-true a a' p.0 in
    let r = and_parts (nat_eq b b') (nat_eq c c' && nat_eq d d') p.1 in
    let s = eqb-true b b' r.0 in
    let t = and_parts (nat_eq c c') (nat_eq d d') r.1 in
    let u = eqb-true c c' t.0 in
    let v = eqb-true d d' t.1 in
    cc
term_key_is (Call a b) (Call a' b') e =
    let p = and_parts (nat_eq a a') (nat_eq b b') e in
    let q = eqb-true a a' p.0 in
    let r = eqb-true b b' p.1 in
    cc
term_key_is (PartJump a b c) (PartJump a' b' c') e =
    let p = and_parts (nat_eq a a') (nat_eq b b' && nat_eq c c') e in
    let q = eqb-true a a' p.0 in
    let s = and_parts (nat_eq b b') (nat_eq c c') p.1 in
    let t = eqb-true b b' s.0 in
    let u = eqb-true c c' s.1 in
    cc
term_key_is (Indirect a b c) (Indirect a' b' c') e =
    let p = and_parts (nat_eq a a') (nat_eq b b' && int_eq c c') e in
    let q = eqb-true a a' p.0 in
    let s = and_parts (nat_eq b b') (int_eq c c') p.1 in
    let t = eqb-true b b' s.0 in
    let u = (Decides-int_eq c c').0 s.1 in
    cc
term_key_is (Stop a) (Stop b) e = ap Stop (eqb-true a b e)
term_key_is a b e = absurd (true≢false (sym e))

pub exact_term_key : IsExact (term_key_eq.ghosts).eq
exact_term_key = exact (term_key_eq.ghosts).eq term_key_law.refl term_key_is

-- an item's behind a number
pub exact_numbered_item : IsExact {K = ℕ × ItemKey} (λ p q. nat_eq p.0 q.0 && (item_key_eq.ghosts).eq p.1 q.1)
exact_numbered_item = exact_pair nat_eq (item_key_eq.ghosts).eq exact_number exact_item_key

-- a term's and an item's, beside a name that may be there
pub exact_end : IsExact {K = TermKey × Option ℕ × ItemKey} (λ p q. (term_key_eq.ghosts).eq p.0 q.0 && (option_eq nat_eq p.1 q.1 && (item_key_eq.ghosts).eq p.2 q.2))
exact_end = exact_triple (term_key_eq.ghosts).eq (option_eq nat_eq) (item_key_eq.ghosts).eq exact_term_key (exact_option nat_eq exact_number) exact_item_key
