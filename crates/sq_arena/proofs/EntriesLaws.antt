-- What the words on pairs of key and value keep, for this crate and its callers.
use Rattle.std.proofs.Common.{◌≡◌, ◌≢◌, ℕ, ◌≤◌, false, ◌==◌, nat_eq, List, [], ◌∷◌, ◌++◌, Option, None, Some, IsSome, is_some, refl, sym, ap, ◌∙◌, inl, inr, arith}
use Rattle.std.proofs.lemmas.Bool.{cases_Bool, cases_eq, eqb-true, eq-eqb, ne_eqb}
use Rattle.std.proofs.lemmas.List.{append_assoc}
use Rattle.std.specs.List.{IsDistinct, AllByRecursion}
use Rattle.sq_arena.specs.Entries.{keys, HasDistinctKeys, value_of, ContainsKey, KeepsOthers, KeepsValues, before, through, starting_at, behind, run, without_run, without, IsRun, insert_after, move_run_after, first_key, next_key}
use Rattle.sq_arena.specs.Links.{once, times, places}
use Rattle.sq_arena.proofs.Paths.{once_same, once_other, other_if, times-places-append, times-None}
use Rattle.sq_arena.proofs.EntriesLemmas.{starting_at-behind, some_value, through-behind, shape_of}

module _ {T : Type 0} where
  -- the first value, or the second where there is none
  abbrev pub or_value : Option T → Option T → Option T
  or_value None other = other
  or_value (Some value) other = Some value

  or_value-assoc : (a b c : Option T) → or_value (or_value a b) c ≡ or_value a (or_value b c)
  or_value-assoc None b c = refl
  or_value-assoc (Some v) b c = refl

  or_value-swap : (a b c : Option T) → (IsSome a → b ≡ None) → or_value a (or_value b c) ≡ or_value b (or_value a c)
  or_value-swap None b c apart = refl
  or_value-swap (Some v) b c apart = rw (apart refl)

  pub value_of-cons : (e : ℕ × T) (rest : List (ℕ × T)) (key : ℕ) → e.0 ≢ key → value_of (e ∷ rest) key ≡ value_of rest key
  value_of-cons e rest key differs = rw (ne_eqb e.0 key differs)

  pub value_of-append : (xs ys : List (ℕ × T)) (key : ℕ) → value_of (xs ++ ys) key ≡ or_value (value_of xs key) (value_of ys key)
  value_of-append [] ys key = refl
  value_of-append (e ∷ xs) ys key =
      elim (cases_Bool (e.0 == key)) [ inl here ↦ rw here | inr apart ↦ rw apart (value_of-append xs ys key) ]

  -- an insertion keeps the value of each other key
  pub KeepsOthers-insert : (front back : List (ℕ × T)) (new : ℕ) (value : T) → KeepsOthers (front ++ back) (front ++ (new, value) ∷ back) new
  KeepsOthers-insert front back new value other differs =
      value_of-append front ((new, value) ∷ back) other
      ∙ ap (or_value (value_of front other)) (value_of-cons (new, value) back other (λ same. differs (sym same)))
      ∙ sym (value_of-append front back other)

  pub KeepsOthers-insert_after : (xs : List (ℕ × T)) (key new : ℕ) (value : T) → KeepsOthers xs (insert_after xs key (new, value)) new
  KeepsOthers-insert_after xs key new value other differs =
      KeepsOthers-insert (through xs key) (behind xs key) new value other differs ∙ ap (λ ps. value_of ps other) (through-behind xs key)

  -- so does a removal
  pub KeepsOthers-without : (xs : List (ℕ × T)) (key : ℕ) → KeepsOthers xs (without xs key) key
  KeepsOthers-without [] key other differs = refl
  KeepsOthers-without (e ∷ rest) key other differs =
      elim (cases_Bool (e.0 == key)) [
        | inl here ↦ rw here (sym (value_of-cons e rest other (λ same. differs (sym same ∙ eqb-true e.0 key here))))
        | inr apart ↦ rw apart (elim (cases_Bool (e.0 == other)) [
          | inl this ↦ rw this
          | inr that ↦ rw that (KeepsOthers-without rest key other differs)
        ])
      ]

  -- a key that stands nowhere has no value
  pub value_of-absent : (xs : List (ℕ × T)) (key : ℕ) → times (Some key) (places xs) ≡ 0 → value_of xs key ≡ None
  value_of-absent [] key absent = refl
  value_of-absent (e ∷ rest) key absent =
      let differs = other_if (Some key) (Some e.0) (omega arith) in
      value_of-cons e rest key (λ same. differs (ap Some same)) ∙ value_of-absent rest key (omega arith)

  pub absent_if_no_value : (xs : List (ℕ × T)) (key : ℕ) → value_of xs key ≡ None → times (Some key) (places xs) ≡ 0
  absent_if_no_value [] key none = refl
  absent_if_no_value (e ∷ rest) key none =
      elim (cases_eq e.0 key) [
        | inl same ↦ absurd (cc (rw (eq-eqb e.0 key same) at none))
        | inr differs ↦
            let apart : once (Some key) (Some e.0) ≡ 0 = once_other (Some key) (Some e.0) (λ same. differs (cc)) in
            omega (arith, absent_if_no_value rest key (rw (ne_eqb e.0 key differs) at none))
      ]

  pub present_if_value : (xs : List (ℕ × T)) (key : ℕ) → ContainsKey xs key → 1 ≤ times (Some key) (places xs)
  present_if_value [] key some = absurd (cc)
  present_if_value (e ∷ rest) key some =
      elim (cases_eq e.0 key) [
        | inl same ↦ omega (arith, ap (λ k. once (Some key) (Some k)) same, once_same (Some key))
        | inr differs ↦ omega (arith, present_if_value rest key (rw (ne_eqb e.0 key differs) at some))
      ]

  -- distinct keys, by how often each place stands
  none_equal : (key : ℕ) (xs : List (ℕ × T)) → times (Some key) (places xs) ≡ 0 → AllByRecursion (λ other. nat_eq key other ≡ false) (keys xs)
  none_equal key [] absent = tt
  none_equal key (e ∷ rest) absent =
      let differs = other_if (Some key) (Some e.0) (omega arith) in
      (ne_eqb key e.0 (λ same. differs (ap Some (sym same))), none_equal key rest (omega arith))

  pub distinct_keys : (xs : List (ℕ × T)) → ((p : Option ℕ) → times p (places xs) ≤ 1) → HasDistinctKeys xs
  unfolding IsDistinct
  distinct_keys [] distinct = tt
  distinct_keys (e ∷ rest) distinct =
      let alone = distinct (Some e.0) in
      let one = once_same (Some e.0) in
      (none_equal e.0 rest (omega arith), distinct_keys rest (λ p. omega (arith, distinct p)))

  absent_if_unequal : (key : ℕ) (xs : List (ℕ × T)) → AllByRecursion (λ other. nat_eq key other ≡ false) (keys xs) → times (Some key) (places xs) ≡ 0
  absent_if_unequal key [] unequal = refl
  absent_if_unequal key (e ∷ rest) unequal =
      let none : once (Some key) (Some e.0) ≡ 0 = rw unequal.0 in
      omega (arith, absent_if_unequal key rest unequal.1)

  pub times_at_most_once : (xs : List (ℕ × T)) → HasDistinctKeys xs → (p : Option ℕ) → times p (places xs) ≤ 1
  unfolding IsDistinct
  times_at_most_once [] distinct p = omega arith
  times_at_most_once (e ∷ rest) distinct None = omega (arith, times-None rest)
  times_at_most_once (e ∷ rest) distinct (Some key) =
      let absent = absent_if_unequal e.0 rest distinct.0 in
      let others = times_at_most_once rest distinct.1 (Some key) in
      elim (cases_eq key e.0) [
        | inl same ↦ omega (arith, ap (λ k. times (Some k) (places rest)) same, ap (λ k. once (Some k) (Some e.0)) same, once_same (Some e.0))
        | inr differs ↦
            let none : once (Some key) (Some e.0) ≡ 0 = once_other (Some key) (Some e.0) (λ same. differs (cc)) in omega arith
      ]

  pub HasDistinctKeys-insert : (front back : List (ℕ × T)) (new : ℕ) (value : T) → HasDistinctKeys (front ++ back) → value_of (front ++ back) new ≡ None → HasDistinctKeys (front ++ (new, value) ∷ back)
  HasDistinctKeys-insert front back new value distinct fresh =
      let absent = absent_if_no_value (front ++ back) new fresh in
      distinct_keys _ (λ p. at_most_once p)
    where
      at_most_once : (p : Option ℕ) → times p (places (front ++ (new, value) ∷ back)) ≤ 1
      at_most_once None = omega (arith, times-None (front ++ (new, value) ∷ back))
      at_most_once (Some key) =
          let absent = absent_if_no_value (front ++ back) new fresh in
          let others = times_at_most_once (front ++ back) distinct (Some key) in
          let whole = times-places-append (Some key) front back in
          let longer = times-places-append (Some key) front ((new, value) ∷ back) in
          elim (cases_eq key new) [
            | inl same ↦ omega (arith, ap (λ k. times (Some k) (places (front ++ back))) same, ap (λ k. once (Some k) (Some new)) same, once_same (Some new))
            | inr differs ↦
                let none : once (Some key) (Some new) ≡ 0 = once_other (Some key) (Some new) (λ same. differs (cc)) in omega arith
          ]

  -- a run that stands elsewhere keeps the value of each key
  KeepsValues-moved : (front pairs back : List (ℕ × T)) → HasDistinctKeys (front ++ (pairs ++ back)) → (key : ℕ) → value_of (front ++ (pairs ++ back)) key ≡ or_value (value_of pairs key) (value_of (front ++ back) key)
  KeepsValues-moved front pairs back distinct key =
      let split = value_of-append front (pairs ++ back) key ∙ ap (or_value (value_of front key)) (value_of-append pairs back key) in
      let apart : IsSome (value_of front key) → value_of pairs key ≡ None = λ some.
      let counts = times-places-append (Some key) front (pairs ++ back) in
      let counts' = times-places-append (Some key) pairs back in
      value_of-absent pairs key (omega (arith, times_at_most_once (front ++ (pairs ++ back)) distinct (Some key), present_if_value front key some)) in
      split ∙ or_value-swap (value_of front key) (value_of pairs key) (value_of back key) apart ∙ ap (or_value (value_of pairs key)) (sym (value_of-append front back key))

  times_moved : (p : Option ℕ) (front pairs back front' back' : List (ℕ × T)) → front ++ back ≡ front' ++ back' → times p (places (front ++ (pairs ++ back))) ≡ times p (places (front' ++ (pairs ++ back')))
  times_moved p front pairs back front' back' same =
      omega (arith, times-places-append p front (pairs ++ back), times-places-append p pairs back, times-places-append p front' (pairs ++ back'), times-places-append p pairs back', times-places-append p front back, times-places-append p front' back', ap (λ xs. times p (places xs)) same)

  pub HasDistinctKeys-move_run_after : (xs : List (ℕ × T)) (first last after : ℕ) → HasDistinctKeys xs → IsRun xs first last → HasDistinctKeys (move_run_after xs first last after)
  HasDistinctKeys-move_run_after xs first last after distinct is_run =
      let ys : List (ℕ × T) = without_run xs first last in
      let whole = (shape_of xs first last is_run).whole in
      distinct_keys _ (λ p. omega (arith, times_at_most_once xs distinct p, ap (λ ps. times p (places ps)) whole, times_moved p (before xs first) (run xs first last) (behind (starting_at xs first) last) (through ys after) (behind ys after) (sym (through-behind ys after))))

  pub KeepsValues-move_run_after : (xs : List (ℕ × T)) (first last after : ℕ) → HasDistinctKeys xs → IsRun xs first last → KeepsValues xs (move_run_after xs first last after)
  KeepsValues-move_run_after xs first last after distinct is_run key =
      let ys : List (ℕ × T) = without_run xs first last in
      let whole = (shape_of xs first last is_run).whole in
      let front : List (ℕ × T) = before xs first in
      let back : List (ℕ × T) = behind (starting_at xs first) last in
      let moved = KeepsValues-moved (through ys after) (run xs first last) (behind ys after) (HasDistinctKeys-move_run_after xs first last after distinct is_run) key in
      let stood = KeepsValues-moved front (run xs first last) back (rw (← whole) distinct) key in
      moved ∙ ap (λ ps. or_value (value_of (run xs first last) key) (value_of ps key)) (through-behind ys after) ∙ sym stood ∙ ap (λ ps. value_of ps key) (sym whole)

  -- two neighbours are a run
  pub IsRun-next : (xs : List (ℕ × T)) (first last : ℕ) → ContainsKey xs first → next_key xs first ≡ Some last → IsRun xs first last
  IsRun-next xs first last present next =
      let value = some_value (value_of xs first) present in
      record {
        starts = present;
        ends = rw (starting_at-behind xs first value.0 value.1) (found value.0 (behind xs first) next);
      }
    where
      found : (value : T) (rest : List (ℕ × T)) → first_key rest ≡ Some last → ContainsKey ((first, value) ∷ rest) last
      found value [] next = absurd (cc)
      found value (e ∷ rest) next =
          let same : e.0 ≡ last = cc in
          elim (cases_Bool (first == last)) [ inl here ↦ rw here | inr apart ↦ rw (apart, eq-eqb e.0 last same) ]

  -- one key is a run
  pub IsRun-one : (xs : List (ℕ × T)) (key : ℕ) → ContainsKey xs key → IsRun xs key key
  IsRun-one xs key present =
      let value = some_value (value_of xs key) present in
      record { starts = present; ends = rw (starting_at-behind xs key value.0 value.1, eq-eqb key key refl) }

  -- a key that is not in the run is in the list without it
  pub ContainsKey-without_run : (xs : List (ℕ × T)) (first last key : ℕ) → IsRun xs first last → ContainsKey xs key → value_of (run xs first last) key ≡ None → ContainsKey (without_run xs first last) key
  ContainsKey-without_run xs first last key is_run present outside =
      let front : List (ℕ × T) = before xs first in
      let back : List (ℕ × T) = behind (starting_at xs first) last in
      let whole = (shape_of xs first last is_run).whole in
      let same = ap (λ ps. value_of ps key) whole
      ∙ value_of-append front (run xs first last ++ back) key
      ∙ ap (or_value (value_of front key)) (value_of-append (run xs first last) back key ∙ ap (λ o. or_value o (value_of back key)) outside)
      ∙ sym (value_of-append front back key) in
      ap is_some (sym same) ∙ present

  -- the run of two neighbours has no other key
  pub ContainsKey-without_pair : (xs : List (ℕ × T)) (first last key : ℕ) → ContainsKey xs first → next_key xs first ≡ Some last → ContainsKey xs key → key ≢ first → key ≢ last → ContainsKey (without_run xs first last) key
  ContainsKey-without_pair xs first last key starts next present not_first not_last =
      let value = some_value (value_of xs first) starts in
      let shown = ap (λ ps. value_of (through ps last) key) (starting_at-behind xs first value.0 value.1) in
      ContainsKey-without_run xs first last key (IsRun-next xs first last starts next) present (shown ∙ outside value.0 (behind xs first) next)
    where
      outside : (value : T) (rest : List (ℕ × T)) → first_key rest ≡ Some last → value_of (through ((first, value) ∷ rest) last) key ≡ None
      outside value [] next' = absurd (cc)
      outside value (e ∷ rest) next' =
          let same : e.0 ≡ last = cc in
          let no_first : (first == key) ≡ false = ne_eqb first key (λ s. not_first (sym s)) in
          let no_last : (e.0 == key) ≡ false = ne_eqb e.0 key (λ s. not_last (sym s ∙ same)) in
          elim (cases_Bool (first == last)) [ inl here ↦ rw (here, no_first) | inr apart ↦ rw (apart, no_first, eq-eqb e.0 last same, no_last) ]

  or_value_none : (a b : Option T) → or_value a b ≡ None → a ≡ None
  or_value_none None b none = refl
  or_value_none (Some v) b none = absurd (cc)

  pub before-append : (front back : List (ℕ × T)) (key : ℕ) (value : T) → value_of front key ≡ None → before (front ++ (key, value) ∷ back) key ≡ front
  before-append [] back key value fresh = rw (eq-eqb key key refl)
  before-append (e ∷ front) back key value fresh =
      elim (cases_Bool (e.0 == key)) [
        | inl here ↦ absurd (cc (rw here at fresh))
        | inr apart ↦ rw apart (ap (λ ps. e ∷ ps) (before-append front back key value (rw apart at fresh)))
      ]

  pub behind-append : (front back : List (ℕ × T)) (key : ℕ) (value : T) → value_of front key ≡ None → behind (front ++ (key, value) ∷ back) key ≡ back
  behind-append [] back key value fresh = rw (eq-eqb key key refl)
  behind-append (e ∷ front) back key value fresh =
      elim (cases_Bool (e.0 == key)) [
        | inl here ↦ absurd (cc (rw here at fresh))
        | inr apart ↦ rw apart (behind-append front back key value (rw apart at fresh))
      ]

  pub starting_at-append : (front back : List (ℕ × T)) (key : ℕ) (value : T) → value_of front key ≡ None → starting_at (front ++ (key, value) ∷ back) key ≡ (key, value) ∷ back
  starting_at-append [] back key value fresh = rw (eq-eqb key key refl)
  starting_at-append (e ∷ front) back key value fresh =
      elim (cases_Bool (e.0 == key)) [
        | inl here ↦ absurd (cc (rw here at fresh))
        | inr apart ↦ rw apart (starting_at-append front back key value (rw apart at fresh))
      ]

  -- without the new key the list is the old one
  pub without-insert : (front back : List (ℕ × T)) (new : ℕ) (value : T) → value_of (front ++ back) new ≡ None → without (front ++ (new, value) ∷ back) new ≡ front ++ back
  without-insert front back new value fresh =
      let none : value_of front new ≡ None = or_value_none (value_of front new) (value_of back new) (sym (value_of-append front back new) ∙ fresh) in
      ap (λ ps. ps ++ behind (front ++ (new, value) ∷ back) new) (before-append front back new value none)
      ∙ ap (λ ps. front ++ ps) (behind-append front back new value none)

  pub without-insert_after : (xs : List (ℕ × T)) (key new : ℕ) (value : T) → value_of xs new ≡ None → without (insert_after xs key (new, value)) new ≡ xs
  without-insert_after xs key new value fresh =
      without-insert (through xs key) (behind xs key) new value (ap (λ ps. value_of ps new) (through-behind xs key) ∙ fresh) ∙ through-behind xs key

  -- a key that stands behind has no value ahead
  pub absent_ahead : (front back : List (ℕ × T)) (key : ℕ) (value : T) → HasDistinctKeys (front ++ (key, value) ∷ back) → value_of front key ≡ None
  absent_ahead front back key value distinct =
      value_of-absent front key (omega (arith, times_at_most_once (front ++ (key, value) ∷ back) distinct (Some key), times-places-append (Some key) front ((key, value) ∷ back), once_same (Some key)))

  pub distinct_back : (front back : List (ℕ × T)) → HasDistinctKeys (front ++ back) → HasDistinctKeys back
  distinct_back front back distinct = distinct_keys back (λ p. omega (arith, times_at_most_once (front ++ back) distinct p, times-places-append p front back))

  -- the pairs around a run that begins and ends with these keys
  without_run-around : (front pairs back tail lead : List (ℕ × T)) (first last : ℕ) (value last_value : T) → pairs ≡ (first, value) ∷ tail → pairs ≡ lead ++ (last, last_value) ∷ [] → HasDistinctKeys (front ++ (pairs ++ back)) → without_run (front ++ (pairs ++ back)) first last ≡ front ++ back
  without_run-around front pairs back tail lead first last value last_value starts ends distinct =
      let whole : front ++ (pairs ++ back) ≡ front ++ (first, value) ∷ (tail ++ back) = ap (λ ps. front ++ (ps ++ back)) starts in
      let rest : pairs ++ back ≡ lead ++ (last, last_value) ∷ back = ap (λ ps. ps ++ back) ends ∙ append_assoc lead ((last, last_value) ∷ []) back in
      let rest' : (first, value) ∷ (tail ++ back) ≡ lead ++ (last, last_value) ∷ back = ap (λ ps. ps ++ back) (sym starts) ∙ rest in
      let none = absent_ahead front (tail ++ back) first value (rw whole at distinct) in
      let none_last = absent_ahead lead back last last_value (rw rest at (distinct_back front (pairs ++ back) distinct)) in
      ap (λ ps. without_run ps first last) whole
      ∙ ap (λ ps. ps ++ behind (starting_at (front ++ (first, value) ∷ (tail ++ back)) first) last) (before-append front (tail ++ back) first value none)
      ∙ ap (λ ps. front ++ behind ps last) (starting_at-append front (tail ++ back) first value none ∙ rest')
      ∙ ap (λ ps. front ++ ps) (behind-append lead back last last_value none_last)

  -- a move keeps the order of the rest
  pub without_run-move_run_after : (xs : List (ℕ × T)) (first last after : ℕ) → HasDistinctKeys xs → IsRun xs first last → without_run (move_run_after xs first last after) first last ≡ without_run xs first last
  without_run-move_run_after xs first last after distinct is_run =
      let shape = shape_of xs first last is_run in
      let ys : List (ℕ × T) = without_run xs first last in
      without_run-around (through ys after) (run xs first last) (behind ys after) shape.tail shape.lead first last shape.value shape.last_value shape.is shape.ends (HasDistinctKeys-move_run_after xs first last after distinct is_run)
      ∙ through-behind ys after
