-- Blocks of a part are moved one after the other, in the order of their slots.
use Rattle.std.proofs.Common.{◌≡◌, ◌∙◌, ◌≢◌, ℕ, ◌+◌, ◌<◌, ◌≤◌, List, length, get_or, inl, inr, sym, subst, ap, arith}
use Rattle.std.proofs.lemmas.Bool.{cases_lt, cases_eq}
use Rattle.sq_lookup.specs.declared.places.Place.{Place}
use Rattle.sq_lookup.specs.Standing.{place_at, moved_place, IsIn, AreMoved}

module _ (f : ℕ → ℕ) (number to low k name : ℕ) (order : List ℕ) (old now new : List Place) (listed : get_or order k 0 ≡ name) (from : low ≤ k)
    (moved : AreMoved f number to low k order old now)
    (behind : (n : ℕ) → k ≤ (place_at old n).slot → place_at now n ≡ place_at old n)
    (count : length new ≡ length now)
    (others : (n : ℕ) → n ≢ name → place_at new n ≡ place_at now n)
    (part : (place_at now name).part ≢ number → place_at new name ≡ place_at now name)
    (slot : (place_at now name).slot ≢ k → place_at new name ≡ place_at now name)
    (same : (place_at new name).slot ≡ (place_at now name).slot)
    (hit : name < length now → (place_at now name).part ≡ number → (place_at now name).slot ≡ k → place_at new name ≡ moved_place f to (place_at now name)) where
  stays : (n : ℕ) → (place_at old n).slot ≢ k → place_at new n ≡ place_at now n
  stays n else =
      elim (cases_eq n name) [
        | inl is ↦ subst (λ m. place_at new m ≡ place_at now m) (sym is) (slot (λ at. else (sym (moved.slot n) ∙ ap (λ m. (place_at now m).slot) is ∙ at)))
        | inr other ↦ others n other
      ]

  stays_other : (n : ℕ) → (place_at old n).part ≢ number → place_at new n ≡ place_at now n
  stays_other n else =
      elim (cases_eq n name) [
        | inl is ↦ subst (λ m. place_at new m ≡ place_at now m) (sym is) (part (λ at. else (ap (λ (p : Place). p.part) (sym (moved.other n else)) ∙ ap (λ m. (place_at now m).part) is ∙ at)))
        | inr other ↦ others n other
      ]

  same_slot : (n : ℕ) → (place_at new n).slot ≡ (place_at now n).slot
  same_slot n =
      elim (cases_eq n name) [
        | inl is ↦ subst (λ m. (place_at new m).slot ≡ (place_at now m).slot) (sym is) same
        | inr other ↦ ap (λ (p : Place). p.slot) (others n other)
      ]

  -- the block of this slot
  comes : (n : ℕ) → n < length old → (place_at old n).slot ≡ k → IsIn order number low (k + 1) n (place_at old n) → place_at new n ≡ moved_place f to (place_at old n)
  comes n within at is =
      let named : n ≡ name = sym is.listed ∙ ap (λ m. get_or order m 0) at ∙ listed in
      let unmoved : place_at now n ≡ place_at old n = behind n (omega (arith, at)) in
      let inside : n < length now = omega (arith, within, moved.count) in
      let it : place_at new n ≡ moved_place f to (place_at now n) =
      subst (λ m. m < length now → (place_at now m).part ≡ number → (place_at now m).slot ≡ k → place_at new m ≡ moved_place f to (place_at now m)) (sym named) hit
      inside
      (ap (λ (p : Place). p.part) unmoved ∙ is.part)
      (ap (λ (p : Place). p.slot) unmoved ∙ at) in
      it ∙ ap (moved_place f to) unmoved

  pub moved_more : AreMoved f number to low (k + 1) order old new
  moved_more = record {
    count = count ∙ moved.count;
    slot = λ n. same_slot n ∙ moved.slot n;
    other = λ n else. stays_other n else ∙ moved.other n else;
    below = λ n less. stays n (λ at. omega (arith, less, at, from)) ∙ moved.below n less;
    inside = λ n within is.
        elim (cases_lt (place_at old n).slot k) [
          | inl less ↦ stays n (λ at. omega (arith, less, at)) ∙ moved.inside n within (record { part = is.part; from = is.from; before = less; slot = is.slot; listed = is.listed })
          | inr past ↦ comes n within (omega (arith, past, is.before)) is
        ];
  }

  pub behind_more : (n : ℕ) → k + 1 ≤ (place_at old n).slot → place_at new n ≡ place_at old n
  behind_more n past = stays n (λ at. omega (arith, past, at)) ∙ behind n (omega (arith, past))
