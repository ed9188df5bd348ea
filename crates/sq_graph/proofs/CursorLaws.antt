-- A step of a loop that goes through the list of an arena.
use Rattle.std.proofs.Common.{◌≡◌, ℕ, suc, ◌==◌, true, List, [], ◌∷◌, ◌++◌, length, Option, None, Some, is_some, refl, sym, ap, ◌∙◌, subst, inl, inr, append_assoc}
use Rattle.std.proofs.lemmas.Bool.{cases_Bool, eqb-true, eq-eqb}
use Rattle.std.proofs.lemmas.List.{append-nil}
use Rattle.sq_arena.specs.Entries.{keys, HasDistinctKeys, value_of, before, behind, with_value, first_key, next_key}
use Rattle.sq_arena.proofs.EntriesLaws.{absent_ahead, before-append, behind-append, starting_at-append}
use Rattle.sq_graph.specs.Cursor.{IsPlace, ahead_of, rest_from}
use Rattle.sq_graph.proofs.Located.{value_of-at}

module _ {T : Type 0} where
  pub value_of-before : (es : List (ℕ × T)) (key : ℕ) → value_of (before es key) key ≡ None
  value_of-before [] key = refl
  value_of-before (e ∷ rest) key =
      elim (cases_Bool (e.0 == key)) [ inl here ↦ rw here | inr apart ↦ rw (apart, apart) (value_of-before rest key) ]

  pub with_value-split : (es : List (ℕ × T)) (key : ℕ) (old new : T) → value_of es key ≡ Some old → with_value es key new ≡ before es key ++ (key, new) ∷ behind es key
  with_value-split [] key old new found = absurd (cc)
  with_value-split (e ∷ rest) key old new found =
      elim (cases_Bool (e.0 == key)) [
        | inl here ↦ rw here
        | inr apart ↦ rw apart (ap (λ ps. e ∷ ps) (with_value-split rest key old new (rw apart at found)))
      ]

  pub keys-with_value : (es : List (ℕ × T)) (key : ℕ) (new : T) → keys (with_value es key new) ≡ keys es
  keys-with_value [] key new = refl
  keys-with_value (e ∷ rest) key new =
      elim (cases_Bool (e.0 == key)) [
        | inl here ↦ rw here (ap (λ k. k ∷ keys rest) (sym (eqb-true e.0 key here)))
        | inr apart ↦ rw apart (ap (λ ks. e.0 ∷ ks) (keys-with_value rest key new))
      ]

  pub distinct-with_value : (es : List (ℕ × T)) (key : ℕ) (new : T) → HasDistinctKeys es → HasDistinctKeys (with_value es key new)
  distinct-with_value es key new distinct = rw (keys-with_value es key new) distinct

  -- the pairs around the key in the place behind, in a list that falls into these parts
  pub record IsBehind (entries front : List (ℕ × T)) (pair : ℕ × T) (back : List (ℕ × T)) : Type 0 where
    pub place : IsPlace entries (first_key back)
    pub ahead : ahead_of entries (first_key back) ≡ front ++ pair ∷ []
    pub rest : rest_from entries (first_key back) ≡ back

  pub behind_parts : (front back : List (ℕ × T)) (pair : ℕ × T) → HasDistinctKeys (front ++ pair ∷ back) → IsBehind (front ++ pair ∷ back) front pair back
  behind_parts front [] pair distinct = record { place = tt; ahead = refl; rest = refl }
  behind_parts front (e ∷ back) pair distinct =
      let whole : front ++ pair ∷ e ∷ back ≡ (front ++ pair ∷ []) ++ (e.0, e.1) ∷ back = sym (append_assoc front (pair ∷ []) (e ∷ back)) in
      let apart : value_of (front ++ pair ∷ []) e.0 ≡ None = absent_ahead (front ++ pair ∷ []) back e.0 e.1 (rw whole at distinct) in
      record {
        place = rw whole (ap is_some (value_of-at (front ++ pair ∷ []) back e.0 e.1 apart));
        ahead = rw whole (before-append (front ++ pair ∷ []) back e.0 e.1 apart);
        rest = rw whole (starting_at-append (front ++ pair ∷ []) back e.0 e.1 apart);
      }

  -- the key has a new value, and the place goes on to the next key
  pub record Steps (old new : List (ℕ × T)) (key : ℕ) (value : T) (place : Option ℕ) : Type 0 where
    pub is_place : IsPlace new place
    pub distinct : HasDistinctKeys new
    pub ahead : ahead_of new place ≡ before old key ++ (key, value) ∷ []
    pub rest : rest_from new place ≡ behind old key

  pub steps : (es : List (ℕ × T)) (key : ℕ) (old new : T) → HasDistinctKeys es → value_of es key ≡ Some old → Steps es (with_value es key new) key new (next_key (with_value es key new) key)
  steps es key old new distinct found =
      let front = before es key in
      let back = behind es key in
      let parts = with_value-split es key old new found in
      let still = distinct-with_value es key new distinct in
      let next : next_key (with_value es key new) key ≡ first_key (behind es key) =
      ap (λ ps. first_key (behind ps key)) parts ∙ ap (λ ps. first_key ps) (behind-append (before es key) (behind es key) key new (value_of-before es key)) in
      let there = behind_parts (before es key) (behind es key) (key, new) (subst HasDistinctKeys parts still) in
      record {
        is_place = rw next (rw parts there.place);
        distinct = still;
        ahead = rw next (rw parts there.ahead);
        rest = rw next (rw parts there.rest);
      }

  -- from the first key on, the rest is the whole list
  pub from_first : (es : List (ℕ × T)) → (IsPlace es (first_key es)) × ((ahead_of es (first_key es) ≡ []) × (rest_from es (first_key es) ≡ es))
  from_first [] = (tt, (refl, refl))
  from_first (e ∷ rest) =
      let here : (e.0 == e.0) ≡ true = eq-eqb e.0 e.0 refl in
      (rw here refl, (rw here refl, rw here refl))

  pub value_of-with_value : (es : List (ℕ × T)) (key : ℕ) (old new : T) → value_of es key ≡ Some old → value_of (with_value es key new) key ≡ Some new
  value_of-with_value es key old new found =
      rw (with_value-split es key old new found) (value_of-at (before es key) (behind es key) key new (value_of-before es key))

  pub length-with_value : (es : List (ℕ × T)) (key : ℕ) (new : T) → length (with_value es key new) ≡ length es
  length-with_value [] key new = refl
  length-with_value (e ∷ rest) key new =
      elim (cases_Bool (e.0 == key)) [ inl here ↦ rw here | inr apart ↦ rw apart (ap suc (length-with_value rest key new)) ]

  -- the place between two parts of a list
  pub record IsBetween (entries front back : List (ℕ × T)) : Type 0 where
    pub place : IsPlace entries (first_key back)
    pub ahead : ahead_of entries (first_key back) ≡ front
    pub rest : rest_from entries (first_key back) ≡ back

  pub between_parts : (front back : List (ℕ × T)) → HasDistinctKeys (front ++ back) → IsBetween (front ++ back) front back
  between_parts front [] distinct = record { place = tt; ahead = append-nil front; rest = refl }
  between_parts front (e ∷ back) distinct =
      let apart : value_of front e.0 ≡ None = absent_ahead front back e.0 e.1 distinct in
      record {
        place = ap is_some (value_of-at front back e.0 e.1 apart);
        ahead = before-append front back e.0 e.1 apart;
        rest = starting_at-append front back e.0 e.1 apart;
      }

  same_value : (es : List (ℕ × T)) (key : ℕ) (v : T) → value_of es key ≡ Some v → with_value es key v ≡ es
  same_value [] key v found = refl
  same_value (e ∷ es) key v found =
      elim (cases_Bool (e.0 == key)) [
        | inl here ↦ let value : e.1 ≡ v = cc (rw here at found) in rw here (λ i. (sym (eqb-true e.0 key here) i, sym value i) ∷ es)
        | inr apart ↦ rw apart (ap (λ xs. e ∷ xs) (same_value es key v (rw apart at found)))
      ]

  -- the place goes on to the next key
  pub next_in : (es : List (ℕ × T)) (key : ℕ) (v : T) → HasDistinctKeys es → value_of es key ≡ Some v → (IsPlace es (next_key es key)) × (rest_from es (next_key es key) ≡ behind es key)
  next_in es key v distinct found =
      let st = steps es key v v distinct found in
      let still = same_value es key v found in
      (subst (λ xs. IsPlace xs (next_key xs key)) still st.is_place, subst (λ xs. rest_from xs (next_key xs key) ≡ behind es key) still st.rest)
