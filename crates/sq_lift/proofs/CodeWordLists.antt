-- A file has one list of code words.
use Rattle.std.proofs.Common.{◌≡◌, ℕ, ◌<◌, ◌≤◌, false, nat_eq, List, [], ◌∷◌, Some, None, inl, inr, refl, sym, ap, ◌∙◌, arith}
use Rattle.std.specs.List.{AllByRecursion}
use Rattle.std.proofs.lemmas.Bool.{cases_Bool, eqb-true, eq-eqb, cases_lt}
use Rattle.sq_reloc.specs.declared.mark.CodeWord.{CodeWord}
use Rattle.sq_reloc.specs.CodeWords.{IsAscending, listed_at, AreCodeWords}

apart_eqb : (a b : ℕ) → (a ≡ b → ⊥) → nat_eq a b ≡ false
apart_eqb a b apart = elim (cases_Bool (nat_eq a b)) [ inl same ↦ absurd (apart (eqb-true a b same)) | inr is ↦ is ]

-- nothing is listed at an address below each of the words
none_listed : (words : List CodeWord) (a b : ℕ) → a ≤ b → AllByRecursion (λ other. b < other.at) words → listed_at words a ≡ None
none_listed [] a b low above = refl
none_listed (w ∷ words) a b low above =
    rw (apart_eqb w.at a (λ e. omega (arith, e, above.0))) (none_listed words a b low above.1)

first_listed : (w : CodeWord) (words : List CodeWord) → listed_at (w ∷ words) w.at ≡ Some w.to
first_listed w words = rw (eq-eqb w.at w.at refl) refl

other_listed : (w : CodeWord) (words : List CodeWord) (a : ℕ) → nat_eq w.at a ≡ false → listed_at (w ∷ words) a ≡ listed_at words a
other_listed w words a apart = rw apart refl

-- of two lists the first words stand at one address
not_below : (w v : CodeWord) (words others : List CodeWord) → IsAscending (v ∷ others) → ((a : ℕ) → listed_at (w ∷ words) a ≡ listed_at (v ∷ others) a) → w.at < v.at → ⊥
not_below w v words others ascending same below =
    let none : listed_at (v ∷ others) w.at ≡ None =
    rw (apart_eqb v.at w.at (λ e. omega (arith, e, below))) (none_listed others w.at v.at (omega (arith, below)) ascending.0) in
    let some : listed_at (w ∷ words) w.at ≡ Some w.to = first_listed w words in
    let is = same w.at in
    (cc)

same_at : (w v : CodeWord) (words others : List CodeWord) → IsAscending (w ∷ words) → IsAscending (v ∷ others) → ((a : ℕ) → listed_at (w ∷ words) a ≡ listed_at (v ∷ others) a) → w.at ≡ v.at
same_at w v words others up ascending same =
    elim (cases_lt w.at v.at) [
      | inl below ↦ absurd (not_below w v words others ascending same below)
      | inr above ↦
          elim (cases_lt v.at w.at) [
            | inl below ↦ absurd (not_below v w others words up (λ a. sym (same a)) below)
            | inr equal ↦ omega (arith, above, equal)
          ]
    ]

same_word : (w v : CodeWord) → w.at ≡ v.at → w.to ≡ v.to → w ≡ v
same_word w v e f = λ i. record { at = e i; to = f i }

same_rest : (w v : CodeWord) (words others : List CodeWord) → IsAscending (w ∷ words) → IsAscending (v ∷ others) → w.at ≡ v.at → ((a : ℕ) → listed_at (w ∷ words) a ≡ listed_at (v ∷ others) a) → (a : ℕ) → listed_at words a ≡ listed_at others a
same_rest w v words others up ascending at same a =
    elim (cases_Bool (nat_eq w.at a)) [
      | inl here ↦
          let low : a ≤ w.at = omega (arith, eqb-true w.at a here) in
          none_listed words a w.at low up.0 ∙ sym (none_listed others a v.at (omega (arith, low, at)) ascending.0)
      | inr apart ↦
          let apart_too : nat_eq v.at a ≡ false = ap (λ x. nat_eq x a) (sym at) ∙ apart in
          sym (other_listed w words a apart) ∙ same a ∙ other_listed v others a apart_too
    ]

same_to : (w v : CodeWord) (words others : List CodeWord) → w.at ≡ v.at → ((a : ℕ) → listed_at (w ∷ words) a ≡ listed_at (v ∷ others) a) → w.to ≡ v.to
same_to w v words others at same =
    let left : listed_at (w ∷ words) w.at ≡ Some w.to = first_listed w words in
    let right : listed_at (v ∷ others) w.at ≡ Some v.to = ap (listed_at (v ∷ others)) at ∙ first_listed v others in
    let is = same w.at in
    (cc)

pub same_lists : (words others : List CodeWord) → IsAscending words → IsAscending others → ((a : ℕ) → listed_at words a ≡ listed_at others a) → words ≡ others
same_lists [] [] up ascending same = refl
same_lists [] (v ∷ others) up ascending same = let is = same v.at in let some = first_listed v others in absurd (cc)
same_lists (w ∷ words) [] up ascending same = let is = same w.at in let some = first_listed w words in absurd (cc)
same_lists (w ∷ words) (v ∷ others) up ascending same =
    let at : w.at ≡ v.at = same_at w v words others up ascending same in
    let first : w ≡ v = same_word w v at (same_to w v words others at same) in
    let rest : words ≡ others = same_lists words others up.1 ascending.1 (same_rest w v words others up ascending at same) in
    (cc)

pub one_list : (bytes : List ℕ) (words others : List CodeWord) → AreCodeWords bytes words → AreCodeWords bytes others → words ≡ others
one_list bytes words others are too = same_lists words others are.ascending too.ascending (λ a. are.exactly a ∙ sym (too.exactly a))
