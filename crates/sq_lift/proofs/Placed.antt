-- Words by their places.
use Rattle.std.proofs.Common.{Bor, get_or, nat_lt, is_some, IfSome, ◌≡◌, ℕ, zero, suc, ◌+◌, ◌-◌, ◌*◌, ◌/◌, ◌%◌, ◌<◌, ◌≤◌, Bool, true, false, ◌==◌, ◌&&◌, nat_le, List, [], ◌∷◌, length, Option, Some, None, inl, inr, refl, sym, ap, ◌∙◌, arith, if◌then◌else◌}
use Rattle.std.specs.Prelude.{slice_get}
use Rattle.std.specs.Option.{option_and_then, option_map}
use Rattle.std.proofs.lemmas.Option.{slice_get_past, slice_get-get_or}
use Rattle.std.proofs.lemmas.Bool.{cases_Bool, eqb-true, eqb-false, eq-eqb, and_from}
use Rattle.std.proofs.lemmas.Bool.Decides.{nat_tests}
use Rattle.law_program.specs.Programs.{Word, Text, word_from, word_at, is_word, end_of}
use Rattle.sq_lift.specs.Places.{place_of}

le_is : (a b : ℕ) → a ≤ b → nat_le a b ≡ true
le_is a b le = grind (arith, nat_tests)

le_of : (a b : ℕ) → nat_le a b ≡ true → a ≤ b
le_of a b is = grind (arith, nat_tests)

first_of_both : (a b : Bool) → (a && b) ≡ true → a ≡ true
first_of_both true b p = refl
first_of_both false b p = absurd (cc)

second_of_both : (a b : Bool) → (a && b) ≡ true → b ≡ true
second_of_both true b p = p
second_of_both false b p = absurd (cc)

test_of : (b : Bool) (n k : ℕ) → (if b then Some n else None) ≡ Some k → b ≡ true
test_of true n k e = refl
test_of false n k e = absurd (cc)

value_of : (b : Bool) (n k : ℕ) → (if b then Some n else None) ≡ Some k → n ≡ k
value_of true n k e = (cc)
value_of false n k e = absurd (cc)

pub place_at : (lo k : ℕ) → place_of lo (lo + 4 * k) ≡ Some k
unfolding place_of
place_at lo k =
    let low : nat_le lo (lo + 4 * k) ≡ true = le_is lo (lo + 4 * k) (omega arith) in
    let whole : ((lo + 4 * k - lo) % 4 == 0) ≡ true = eq-eqb ((lo + 4 * k - lo) % 4) 0 (omega arith) in
    let place : (lo + 4 * k - lo) / 4 ≡ k = omega arith in
    rw (and_from (nat_le lo (lo + 4 * k)) ((lo + 4 * k - lo) % 4 == 0) low whole) (ap Some place)

pub place_is : (lo x k : ℕ) → place_of lo x ≡ Some k → x ≡ lo + 4 * k
unfolding place_of
place_is lo x k e =
    let test : (nat_le lo x && (x - lo) % 4 == 0) ≡ true = test_of (nat_le lo x && (x - lo) % 4 == 0) ((x - lo) / 4) k e in
    let place : (x - lo) / 4 ≡ k = value_of (nat_le lo x && (x - lo) % 4 == 0) ((x - lo) / 4) k e in
    let low : lo ≤ x = le_of lo x (first_of_both (nat_le lo x) ((x - lo) % 4 == 0) test) in
    let whole : (x - lo) % 4 ≡ 0 = eqb-true ((x - lo) % 4) 0 (second_of_both (nat_le lo x) ((x - lo) % 4 == 0) test) in
    omega arith

-- the place by words from the next one on
not_there : (lo x : ℕ) → (x == lo) ≡ false → place_of (lo + 4) x ≡ None → (q : Option ℕ) → place_of lo x ≡ q → place_of lo x ≡ None
not_there lo x apart none None is = is
not_there lo x apart none (Some zero) is = let same : x ≡ lo = omega (arith, place_is lo x 0 is) in absurd (eqb-false x lo apart same)
not_there lo x apart none (Some (suc k)) is =
    let same : x ≡ lo + 4 + 4 * k = omega (arith, place_is lo x (suc k) is) in
    let there : place_of (lo + 4) x ≡ Some k = rw same (place_at (lo + 4) k) in
    absurd (cc)

pub next_place : (lo x : ℕ) → (x == lo) ≡ false → (p : Option ℕ) → place_of (lo + 4) x ≡ p → place_of lo x ≡ option_map suc p
next_place lo x apart None is = not_there lo x apart is (place_of lo x) refl
next_place lo x apart (Some k) is =
    let same : x ≡ lo + 4 * suc k = omega (arith, place_is (lo + 4) x k is) in
    rw same (place_at lo (suc k))

pub same_place : (lo x : ℕ) → (x == lo) ≡ true → place_of lo x ≡ Some 0
same_place lo x here = let same : x ≡ lo + 4 * 0 = omega (arith, eqb-true x lo here) in rw same (place_at lo 0)

shifted : (w : Word) (words : List Word) (p : Option ℕ) → option_and_then (slice_get (w ∷ words)) (option_map suc p) ≡ option_and_then (slice_get words) p
shifted w words None = refl
shifted w words (Some k) = refl

none_there : (p : Option ℕ) → option_and_then (slice_get {X = Word} []) p ≡ None
none_there None = refl
none_there (Some k) = refl

from_place : (x at : ℕ) (words : List Word) → word_from x at words ≡ option_and_then (slice_get words) (place_of at x)
from_place x at [] = sym (none_there (place_of at x))
from_place x at (w ∷ words) =
    elim (cases_Bool (x == at)) [
      | inl here ↦ rw (here, same_place at x here) refl
      | inr apart ↦
          rw (apart, next_place at x apart (place_of (at + 4) x) refl, shifted w words (place_of (at + 4) x)) (from_place x (at + 4) words)
    ]

pub word_by_place : (t : Text) (x : ℕ) → word_at t x ≡ option_and_then (slice_get t.words) (place_of t.lo x)
word_by_place t x = from_place x t.lo t.words

pub word_in_place : (t : Text) (x k : ℕ) → Some k ≡ place_of t.lo x → slice_get t.words k ≡ word_at t x
word_in_place t x k e = ap (option_and_then (slice_get t.words)) e ∙ sym (word_by_place t x)

-- past the last there is none
pub past : {A : Type 0} (xs : List A) (k : ℕ) → length xs ≤ k → slice_get xs k ≡ None
past [] k far = refl
past (x ∷ xs) zero far = absurd (omega arith)
past (x ∷ xs) (suc k) far = past xs k (omega arith)

pub no_word_past : (t : Text) (x : ℕ) → end_of t ≤ x → word_at t x ≡ None
no_word_past t x far = word_by_place t x ∙ by_place (place_of t.lo x) refl
  where
    by_place : (p : Option ℕ) → place_of t.lo x ≡ p → option_and_then (slice_get t.words) p ≡ None
    by_place None is = refl
    by_place (Some k) is = past t.words k (omega (arith, place_is t.lo x k is, far))

there : {A : Type 0} (xs : List A) (k : ℕ) → k < length xs → is_some (slice_get xs k) ≡ true
there [] k near = absurd (omega arith)
there (x ∷ xs) zero near = refl
there (x ∷ xs) (suc k) near = there xs k (omega arith)

-- behind one that isn't the last there is another
pub behind : {A : Type 0} (xs : List A) (lo x : ℕ) (p : Option ℕ) → place_of lo x ≡ p → is_some (option_and_then (slice_get xs) p) ≡ true → x + 4 < lo + 4 * length xs → is_some (option_and_then (slice_get xs) (place_of lo (x + 4))) ≡ true
behind xs lo x None is here more = absurd (cc)
behind xs lo x (Some k) is here more =
    let at : x ≡ lo + 4 * k = place_is lo x k is in
    let next : x + 4 ≡ lo + 4 * (k + 1) = omega arith in
    let near : k + 1 < length xs = omega arith in
    rw (next, place_at lo (k + 1)) (there xs (k + 1) near)

pub word_behind : (t : Text) (x : ℕ) → is_word t x ≡ true → x + 4 < end_of t → is_word t (x + 4) ≡ true
word_behind t x here more =
    ap is_some (word_by_place t (x + 4))
    ∙ behind t.words t.lo x (place_of t.lo x) refl (ap is_some (sym (word_by_place t x)) ∙ here) more

-- what a read of a list gives
pub copied_item : {X : Type 0} (xs : List X) (k : ℕ) (r : Option (Bor X)) → is_some r ≡ nat_lt k (length xs) → IfSome r (λ x. x.now ≡ get_or xs k x.now) → option_map (λ x. x.now) r ≡ slice_get xs k
copied_item xs k None e f = let far : length xs ≤ k = grind (arith, nat_tests) in sym (slice_get_past xs k far)
copied_item xs k (Some x) e f =
    let near : k < length xs = grind (arith, nat_tests) in sym (slice_get-get_or xs k x.now near ∙ ap Some (sym f))
