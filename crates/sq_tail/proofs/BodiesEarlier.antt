-- Tables that tell where each key stood last.
use Rattle.std.proofs.Common.{◌≡◌, ◌≢◌, ℕ, ◌+◌, ◌<◌, ◌≤◌, ◌⊎◌, List, [], ◌∷◌, ◌++◌, Option, Some, None, slice_get, get_or, length, length-append, nat_eq, cond, refl, sym, ap, ◌∙◌, subst, arith, ⊎_elim}
use Rattle.std.specs.Prelude.{slice_index}
use Rattle.std.proofs.Math.Seq.{get_or-append_seam}
use Rattle.std.proofs.lemmas.Bool.{cases_eq}
use Rattle.std.proofs.lemmas.List.{get_or_append_left}
use Rattle.std.proofs.lemmas.Option.{get_or_from_slice_get, slice_get-get_or, slice_get_within}
use Rattle.sq_tail.specs.BodiesEarlier.{IsLast}

-- the key at this place is another
last_kept : (keys : List ℕ) (key below : ℕ) (place : Option ℕ) → IsLast keys key below place → slice_index keys below ≢ key → IsLast keys key (below + 1) place
last_kept keys key below None last other = λ j under e.
    ⊎_elim (λ same. other (ap (slice_index keys) (sym same) ∙ e)) (λ apart. last j (omega arith) e) (cases_eq j below)
last_kept keys key below (Some k) last other = (
  let l = last.0 in omega arith,
  (
    last.1.0,
    λ j over under e. ⊎_elim (λ same. other (ap (slice_index keys) (sym same) ∙ e)) (λ apart. last.1.1 j over (omega arith) e) (cases_eq j below),
  ),
)

-- the key at this place is this one
last_here : (keys : List ℕ) (below : ℕ) → IsLast keys (slice_index keys below) (below + 1) (Some below)
last_here keys below = (omega arith, (refl, λ j over under e. absurd (omega arith)))

-- the table for one place more
pub last_next : (keys : List ℕ) (below : ℕ) (at new : ℕ → Option ℕ) → ((key : ℕ) → IsLast keys key below (at key)) → ((key : ℕ) → new key ≡ cond (nat_eq (slice_index keys below) key) (Some below) (at key))
    → (key : ℕ) → IsLast keys key (below + 1) (new key)
last_next keys below at new last updated key =
    ⊎_elim
    (λ same.
    let is : new key ≡ Some below = grind (arith, updated key) in
    subst (λ place. IsLast keys key (below + 1) place) (sym is) (subst (λ k. IsLast keys k (below + 1) (Some below)) same (last_here keys below)))
    (λ apart.
    let is : new key ≡ at key = grind (arith, updated key) in
    subst (λ place. IsLast keys key (below + 1) place) (sym is) (last_kept keys key below (at key) (last key) apart))
    (cases_eq (slice_index keys below) key)

-- one place more
pub earlier_next : (keys : List ℕ) (places : List (Option ℕ)) (n : ℕ) (place : Option ℕ) → length places ≡ n → ((i : ℕ) (at : Option ℕ) → slice_get places i ≡ Some at → IsLast keys (slice_index keys i) i at) → IsLast keys (slice_index keys n) n place
    → (i : ℕ) (at : Option ℕ) → slice_get (places ++ place ∷ []) i ≡ Some at → IsLast keys (slice_index keys i) i at
earlier_next keys places n place many earlier last i at e =
    let is : get_or (places ++ place ∷ []) i None ≡ at = get_or_from_slice_get (places ++ place ∷ []) i at None e in
    ⊎_elim
    (λ less.
    let here : get_or places i None ≡ at = sym (get_or_append_left places (place ∷ []) None i (omega arith)) ∙ is in
    earlier i at (slice_get-get_or places i None (omega arith) ∙ ap Some here))
    (λ more.
    let within = slice_get_within (places ++ place ∷ []) i at e in
    let same : i ≡ n = omega (arith, length-append places (place ∷ [])) in
    let here : place ≡ at = sym (get_or-append_seam places place [] None) ∙ ap (λ k. get_or (places ++ place ∷ []) k None) (many ∙ sym same) ∙ is in
    subst (λ o. IsLast keys (slice_index keys i) i o) here (subst (λ k. IsLast keys (slice_index keys k) k place) (sym same) last))
    (split i n)
  where
    split : (j below : ℕ) → (j < below) ⊎ (below ≤ j)
    split j below = grind arith
