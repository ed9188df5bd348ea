-- A loop that goes through the list of an arena from its end to its head, and does each pair when those behind
-- it are done.
use Rattle.std.proofs.Common.{◌≡◌, ℕ, ◌<◌, List, [], ◌∷◌, ◌++◌, length, Option, None, Some, is_some, refl, sym, ap, ◌∙◌, subst, arith, append_assoc, length-append}
use Rattle.std.proofs.lemmas.List.{append-nil}
use Rattle.sq_arena.specs.Entries.{HasDistinctKeys, value_of, ContainsKey, before, through, behind, with_value, last_key, previous_key}
use Rattle.sq_arena.proofs.EntriesLemmas.{through-before}
use Rattle.sq_arena.proofs.EntriesLaws.{absent_ahead, before-append, behind-append}
use Rattle.sq_graph.proofs.Located.{value_of-at}
use Rattle.sq_graph.proofs.CursorLaws.{with_value-split}

module _ {T : Type 0} where
  -- the pairs up to a place, with its own
  abbrev pub up_to : List (ℕ × T) → Option ℕ → List (ℕ × T)
  up_to entries None = []
  up_to entries (Some key) = through entries key

  -- the pair of the key stands last
  pub record IsLast (front : List (ℕ × T)) (key : ℕ) : Type 0 where
    pub lead : List (ℕ × T)
    pub value : T
    pub is : front ≡ lead ++ (key, value) ∷ []

  pub last_of : (front : List (ℕ × T)) (key : ℕ) → last_key front ≡ Some key → IsLast front key
  last_of [] key last = absurd (cc)
  last_of (e ∷ []) key last =
      let same : e.0 ≡ key = cc in
      record { lead = []; value = e.1; is = ap (λ k. (k, e.1) ∷ []) same }
  last_of (e ∷ next ∷ rest) key last =
      let at = last_of (next ∷ rest) key last in
      record { lead = e ∷ at.lead; value = at.value; is = ap (λ es. e ∷ es) at.is }

  pub no_last : (front : List (ℕ × T)) → None ≡ last_key front → front ≡ []
  no_last [] none = refl
  no_last (e ∷ []) none = absurd (cc)
  no_last (e ∷ next ∷ rest) none = absurd (cc (no_last (next ∷ rest) none))

  -- the pair of a key, between those ahead of it and those behind it
  pub record IsIn (entries lead : List (ℕ × T)) (key : ℕ) (value : T) (back : List (ℕ × T)) : Type 0 where
    pub found : value_of entries key ≡ Some value
    pub ahead_is : before entries key ≡ lead
    pub behind_is : behind entries key ≡ back
    pub up_to_is : through entries key ≡ lead ++ (key, value) ∷ []

  pub is_in : (lead back : List (ℕ × T)) (key : ℕ) (value : T) → HasDistinctKeys (lead ++ (key, value) ∷ back) → IsIn (lead ++ (key, value) ∷ back) lead key value back
  is_in lead back key value distinct =
      let apart = absent_ahead lead back key value distinct in
      let found = value_of-at lead back key value apart in
      let ahead = before-append lead back key value apart in
      record {
        found = found;
        ahead_is = ahead;
        behind_is = behind-append lead back key value apart;
        up_to_is = through-before (lead ++ (key, value) ∷ back) key value found ∙ ap (λ es. es ++ (key, value) ∷ []) ahead;
      }

  last_there : (e : ℕ × T) (rest : List (ℕ × T)) → (key : ℕ) × (last_key (e ∷ rest) ≡ Some key)
  last_there e [] = (e.0, refl)
  last_there e (next ∷ rest) = last_there next rest

  pub up_to_last : (front back : List (ℕ × T)) → HasDistinctKeys (front ++ back) → up_to (front ++ back) (last_key front) ≡ front
  up_to_last [] back distinct = refl
  up_to_last (e ∷ rest) back distinct =
      let last = last_there e rest in
      let at = last_of (e ∷ rest) last.0 last.1 in
      let whole : (e ∷ rest) ++ back ≡ at.lead ++ (last.0, at.value) ∷ back =
      ap (λ es. es ++ back) at.is ∙ append_assoc at.lead ((last.0, at.value) ∷ []) back in
      ap (up_to ((e ∷ rest) ++ back)) last.1
      ∙ ap (λ es. through es last.0) whole
      ∙ (is_in at.lead back last.0 at.value (subst (λ (es : List (ℕ × T)). HasDistinctKeys es) whole distinct)).up_to_is
      ∙ sym at.is

  module _ (f : List (ℕ × T) → List (ℕ × T)) where
    -- the pairs behind the place are done
    pub record IsDoneBehind (old now : List (ℕ × T)) (place : Option ℕ) : Type 0 where
      pub front : List (ℕ × T)
      pub back : List (ℕ × T)
      pub was : old ≡ front ++ back
      pub is : now ≡ front ++ f back
      pub place_is : place ≡ last_key front
      pub distinct : HasDistinctKeys now

    -- the pair of a name is the next to be done
    pub record IsNext (old now : List (ℕ × T)) (name : ℕ) : Type 0 where
      pub lead : List (ℕ × T)
      pub value : T
      pub back : List (ℕ × T)
      pub was : old ≡ lead ++ (name, value) ∷ back
      pub is : now ≡ lead ++ (name, value) ∷ f back
      pub at : IsIn now lead name value (f back)

    abbrev pub next_done : (old now : List (ℕ × T)) (name : ℕ) → IsDoneBehind old now (Some name) → IsNext old now name
    next_done old now name done =
        let last = last_of done.front name (sym done.place_is) in
        let is : now ≡ last.lead ++ (name, last.value) ∷ f done.back =
        done.is ∙ ap (λ es. es ++ f done.back) last.is ∙ append_assoc last.lead ((name, last.value) ∷ []) (f done.back) in
        record {
          lead = last.lead;
          value = last.value;
          back = done.back;
          was = done.was ∙ ap (λ es. es ++ done.back) last.is ∙ append_assoc last.lead ((name, last.value) ∷ []) done.back;
          is = is;
          at = rw is (is_in last.lead (f done.back) name last.value (subst (λ (es : List (ℕ × T)). HasDistinctKeys es) is done.distinct));
        }

    pub next_there : (old now : List (ℕ × T)) (name : ℕ) → IsDoneBehind old now (Some name) → ContainsKey now name
    next_there old now name done = let next = next_done old now name done in ap is_some next.at.found

    pub next_value : (old now : List (ℕ × T)) (name : ℕ) (value : T) (next : IsNext old now name) → value_of now name ≡ Some value → next.value ≡ value
    next_value old now name value next found =
        let same : Some next.value ≡ Some value = sym next.at.found ∙ found in
        cc

    -- a new value for the name
    pub next_written : (old now : List (ℕ × T)) (name : ℕ) (value new : T) (next : IsNext old now name) → value_of now name ≡ Some value → with_value now name new ≡ next.lead ++ (name, new) ∷ f next.back
    next_written old now name value new next found =
        with_value-split now name value new found
        ∙ ap (λ es. es ++ (name, new) ∷ behind now name) next.at.ahead_is
        ∙ ap (λ es. next.lead ++ (name, new) ∷ es) next.at.behind_is

    -- the loop begins at the end
    abbrev pub none_done : (old : List (ℕ × T)) (place : Option ℕ) → HasDistinctKeys old → f [] ≡ [] → place ≡ last_key old → IsDoneBehind old old place
    none_done old place distinct empty place_is =
        record { front = old; back = []; was = sym (append-nil old); is = sym (append-nil old) ∙ ap (λ es. old ++ es) (sym empty); place_is = place_is; distinct = distinct }

    pub all_done : (old now : List (ℕ × T)) → IsDoneBehind old now None → now ≡ f old
    all_done old now done =
        let none = no_last done.front done.place_is in
        done.is ∙ ap (λ es. es ++ f done.back) none ∙ ap f (sym (done.was ∙ ap (λ es. es ++ done.back) none))

    -- the pair of the name is done, and the place goes on to the one ahead of it
    abbrev pub one_done : (old now new : List (ℕ × T)) (name : ℕ) (place : Option ℕ) (next : IsNext old now name) → new ≡ next.lead ++ f ((name, next.value) ∷ next.back) → HasDistinctKeys new → place ≡ previous_key now name → IsDoneBehind old new place
    one_done old now new name place next is distinct place_is =
        record { front = next.lead; back = (name, next.value) ∷ next.back; was = next.was; is = is; place_is = place_is ∙ ap last_key next.at.ahead_is; distinct = distinct }

    -- each step leaves less to do
    pub one_less : (old now new : List (ℕ × T)) (name : ℕ) (place : Option ℕ) (next : IsNext old now name) → new ≡ next.lead ++ f ((name, next.value) ∷ next.back) → HasDistinctKeys new → place ≡ previous_key now name → length (up_to new place) < length (up_to now (Some name))
    one_less old now new name place next is distinct place_is =
        let left : up_to new place ≡ next.lead =
        ap (up_to new) (place_is ∙ ap last_key next.at.ahead_is)
        ∙ ap (λ es. up_to es (last_key next.lead)) is
        ∙ up_to_last next.lead (f ((name, next.value) ∷ next.back)) (subst (λ (es : List (ℕ × T)). HasDistinctKeys es) is distinct) in
        omega (arith, ap (λ es. length es) left, ap (λ es. length es) next.at.up_to_is, length-append next.lead ((name, next.value) ∷ []))
