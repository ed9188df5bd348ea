-- Lemmas on lists of pairs of key and value, for this crate and its callers.
use Rattle.std.proofs.Common.{◌≡◌, ℕ, cond, ◌==◌, List, [], ◌∷◌, ◌++◌, Option, None, Some, IsSome, refl, sym, ap, ◌∙◌, inl, inr}
use Rattle.std.proofs.lemmas.Bool.{cases_Bool, eqb-true}
use Rattle.sq_arena.specs.Entries.{value_of, before, through, starting_at, behind, run, IsRun}

module _ {T : Type 0} where
  pair_is : (e : ℕ × T) (key : ℕ) (value : T) → e.0 ≡ key → Some e.1 ≡ Some value → e ≡ (key, value)
  pair_is e key value same_key same_value =
      let same : e.1 ≡ value = cc in
      ap (λ k. (k, e.1)) same_key ∙ ap (λ v. (key, v)) same

  -- the list is what stands before the key, its pair, and what stands behind it
  pub split_at : (xs : List (ℕ × T)) (key : ℕ) (value : T) → value_of xs key ≡ Some value → xs ≡ before xs key ++ (key, value) ∷ behind xs key
  split_at [] key value found = absurd (cc)
  split_at (e ∷ rest) key value found =
      elim (cases_Bool (e.0 == key)) [
        | inl here ↦ rw here (ap (λ p. p ∷ rest) (pair_is e key value (eqb-true e.0 key here) (rw here at found)))
        | inr apart ↦ rw apart (ap (λ ps. e ∷ ps) (split_at rest key value (rw apart at found)))
      ]

  pub through-before : (xs : List (ℕ × T)) (key : ℕ) (value : T) → value_of xs key ≡ Some value → through xs key ≡ before xs key ++ (key, value) ∷ []
  through-before [] key value found = absurd (cc)
  through-before (e ∷ rest) key value found =
      elim (cases_Bool (e.0 == key)) [
        | inl here ↦ rw here (ap (λ p. p ∷ []) (pair_is e key value (eqb-true e.0 key here) (rw here at found)))
        | inr apart ↦ rw apart (ap (λ ps. e ∷ ps) (through-before rest key value (rw apart at found)))
      ]

  pub starting_at-behind : (xs : List (ℕ × T)) (key : ℕ) (value : T) → value_of xs key ≡ Some value → starting_at xs key ≡ (key, value) ∷ behind xs key
  starting_at-behind [] key value found = absurd (cc)
  starting_at-behind (e ∷ rest) key value found =
      elim (cases_Bool (e.0 == key)) [
        | inl here ↦ rw here (ap (λ p. p ∷ rest) (pair_is e key value (eqb-true e.0 key here) (rw here at found)))
        | inr apart ↦ rw apart (starting_at-behind rest key value (rw apart at found))
      ]

  -- a key of the list has a value
  pub some_value : (o : Option T) → IsSome o → (value : T) × (o ≡ Some value)
  some_value None some = absurd (cc)
  some_value (Some value) some = (value, refl)

  pub through-behind : (xs : List (ℕ × T)) (key : ℕ) → through xs key ++ behind xs key ≡ xs
  through-behind [] key = refl
  through-behind (e ∷ rest) key =
      elim (cases_Bool (e.0 == key)) [
        | inl here ↦ rw here
        | inr apart ↦ rw apart (ap (λ ps. e ∷ ps) (through-behind rest key))
      ]

  -- a run has a first pair
  pub record HasShape (xs : List (ℕ × T)) (first last : ℕ) : Type 0 where
    pub value : T
    pub tail : List (ℕ × T)
    pub is : run xs first last ≡ (first, value) ∷ tail
    pub last_value : T
    pub lead : List (ℕ × T)
    pub ends : run xs first last ≡ lead ++ (last, last_value) ∷ []
    pub whole : xs ≡ before xs first ++ (run xs first last ++ behind (starting_at xs first) last)

  run_tail : (first last : ℕ) (value : T) (rest : List (ℕ × T)) → through ((first, value) ∷ rest) last ≡ (first, value) ∷ cond (first == last) [] (through rest last)
  run_tail first last value rest =
      elim (cases_Bool (first == last)) [ inl here ↦ rw here | inr apart ↦ rw apart ]

  pub shape_of : (xs : List (ℕ × T)) (first last : ℕ) → IsRun xs first last → HasShape xs first last
  shape_of xs first last is_run =
      let value = some_value (value_of xs first) is_run.starts in
      let from = starting_at-behind xs first value.0 value.1 in
      let last_value = some_value (value_of (starting_at xs first) last) is_run.ends in
      let back = through-behind (starting_at xs first) last in
      record {
        value = value.0;
        tail = cond (first == last) [] (through (behind xs first) last);
        is = ap (λ ps. through ps last) from ∙ run_tail first last value.0 (behind xs first);
        last_value = last_value.0;
        lead = before (starting_at xs first) last;
        ends = through-before (starting_at xs first) last last_value.0 last_value.1;
        whole = split_at xs first value.0 value.1 ∙ ap (λ ps. before xs first ++ ps) (sym from ∙ sym back);
      }
