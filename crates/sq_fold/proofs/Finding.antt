-- One more place in an index.
use Rattle.std.proofs.Common.{◌≡◌, ℕ, ◌+◌, ◌≤◌, ⊎_elim, inl, inr, true, List, Option, Some, IsSome, slice_get, length, cond, refl, sym, ap, ◌∙◌, subst, arith}
use Rattle.std.proofs.lemmas.Bool.{cases_Bool, cases_eq}
use Rattle.sq_finger.specs.declared.places.WindowAt.{WindowAt}
use Rattle.sq_finger.specs.Classes.{is_same_kind}
use Rattle.sq_finger.proofs.Keyed.{same_kind, kind_laws}
use Rattle.sq_fold.specs.Index.{IsIndexOf, IsIndex}

some_same : {X : Type 0} {x y : X} → Some x ≡ Some y → x ≡ y
some_same e = cc

abbrev key_of_place : WindowAt → ℕ × ℕ
key_of_place p = (p.block, p.at)

abbrev place_of_key : ℕ × ℕ → WindowAt
place_of_key k = record { block = k.0; at = k.1 }

one_place : (p q : WindowAt) → key_of_place p ≡ key_of_place q → p ≡ q
one_place p q e = ap place_of_key e

pub index_next : (line : List WindowAt) (j : ℕ) (place : WindowAt) (find new : ℕ × ℕ → Option ℕ) → slice_get line j ≡ Some place → IsIndexOf line j find
    → ((q : ℕ × ℕ) → new q ≡ cond (is_same_kind (place.block, place.at) q) (Some j) (find q)) → IsIndexOf line (j + 1) new
index_next line j place find new here index updated = record {
  found = λ p i e. elim (cases_Bool (is_same_kind (place.block, place.at) (p.block, p.at))) [
    | inl t ↦
        let same = one_place place p (same_kind (place.block, place.at) (p.block, p.at) t) in
        let at : Some j ≡ Some i = sym (updated (p.block, p.at) ∙ ap (λ b. cond b (Some j) (find (p.block, p.at))) t) ∙ e in
        ap (slice_get line) (sym (some_same at)) ∙ here ∙ ap Some same
    | inr f ↦ index.found p i (sym (updated (p.block, p.at) ∙ ap (λ b. cond b (Some j) (find (p.block, p.at))) f) ∙ e)
  ];
  there = λ p i l e. elim (cases_Bool (is_same_kind (place.block, place.at) (p.block, p.at))) [
    | inl t ↦ subst IsSome (sym (updated (p.block, p.at) ∙ ap (λ b. cond b (Some j) (find (p.block, p.at))) t)) refl
    | inr f ↦
        subst IsSome (sym (updated (p.block, p.at) ∙ ap (λ b. cond b (Some j) (find (p.block, p.at))) f))
        (⊎_elim
        (λ same. absurd (
        let at : Some place ≡ Some p = sym here ∙ ap (slice_get line) (sym same) ∙ e in
        let q : place ≡ p = some_same at in
        let t : is_same_kind (place.block, place.at) (p.block, p.at) ≡ true = subst (λ z. is_same_kind (place.block, place.at) (z.block, z.at) ≡ true) q (kind_laws.refl (place.block, place.at)) in
        cc))
        (λ apart. index.there p i (omega arith) e)
        (cases_eq i j))
  ];
}

pub index_end : (line : List WindowAt) (j : ℕ) (find : ℕ × ℕ → Option ℕ) → length line ≤ j → IsIndexOf line j find → IsIndex line find
index_end line j find past index = record { found = index.found; there = λ p i l e. index.there p i (omega arith) e }
