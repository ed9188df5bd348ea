-- What the links of an arena tell of its list, and which places they name.
use Rattle.std.proofs.Common.{◌≡◌, ℕ, List, [], ◌∷◌, ◌++◌, Option, None, Some, refl, sym, ap, subst, ◌∙◌, inl, inr}
use Rattle.std.proofs.lemmas.Bool.{cases_eq, eq-eqb, ne_eqb}
use Rattle.std.proofs.lemmas.List.{append-nil}
use Rattle.slab.specs.Slab.{get}
use Rattle.sq_arena.specs.declared.links.Links.{Links}
use Rattle.sq_arena.specs.Entries.{value_of, ContainsKey, before, through, behind, first_key, last_key}
use Rattle.sq_arena.specs.Links.{IsPlace, places, HasNode, value_at, next_at, previous_at, IsJoined, HoldsEach, IsLinked, listed, IsArena}
use Rattle.sq_arena.proofs.Paths.{places-append, last_of, last_of-append}
use Rattle.sq_arena.proofs.Pieces.{first_place, last_place, run_end, node_of_value, ring_middle, ahead_of_run, behind_run, held_front, held_back}
use Rattle.sq_arena.proofs.EntriesLemmas.{split_at, through-before, some_value}
use Rattle.sq_arena.proofs.ArenaLemmas.{value_at-value_of}

module _ {T : Type 0} where
  last_key-cons : (e : ℕ × T) (rest : List (ℕ × T)) → last_key (e ∷ rest) ≡ last_of (Some e.0) (places rest)
  last_key-cons e [] = refl
  last_key-cons e (next ∷ rest) = last_key-cons next rest

  pub last_key-place : (xs : List (ℕ × T)) → last_key xs ≡ last_place xs
  last_key-place [] = refl
  last_key-place (e ∷ rest) = last_key-cons e rest

  pub last_place-snoc : (xs : List (ℕ × T)) (e : ℕ × T) → last_place (xs ++ e ∷ []) ≡ Some e.0
  last_place-snoc xs e = ap (last_of None) (places-append xs (e ∷ [])) ∙ last_of-append None (places xs) (Some e.0 ∷ [])

  pub last_place-through : (xs : List (ℕ × T)) (key : ℕ) → ContainsKey xs key → last_place (through xs key) ≡ Some key
  last_place-through xs key present =
      let value = some_value (value_of xs key) present in
      ap last_place (through-before xs key value.0 value.1) ∙ last_place-snoc (before xs key) (key, value.0)

  -- the places that pairs name have nodes
  last_of-IsPlace : (l : Links T) (p : Option ℕ) (xs : List (ℕ × T)) → IsPlace l p → HoldsEach l xs → IsPlace l (last_of p (places xs))
  last_of-IsPlace l p [] place held = place
  last_of-IsPlace l p (e ∷ rest) place held = last_of-IsPlace l (Some e.0) rest (node_of_value (get l.nodes e.0) e.1 held.0) held.1

  pub last_place-IsPlace : (l : Links T) (xs : List (ℕ × T)) → HoldsEach l xs → IsPlace l (last_place xs)
  last_place-IsPlace l xs held = last_of-IsPlace l None xs tt held

  pub first_place-IsPlace : (l : Links T) (xs : List (ℕ × T)) → HoldsEach l xs → IsPlace l (first_place xs)
  first_place-IsPlace l [] held = tt
  first_place-IsPlace l (e ∷ rest) held = node_of_value (get l.nodes e.0) e.1 held.0

  pub value_at-held : (l : Links T) (xs : List (ℕ × T)) (key : ℕ) (value : T) → HoldsEach l xs → value_of xs key ≡ Some value → value_at l key ≡ Some value
  value_at-held l [] key value held found = absurd (cc)
  value_at-held l (e ∷ rest) key value held found =
      elim (cases_eq e.0 key) [
        | inl same ↦ ap (value_at l) (sym same) ∙ held.0 ∙ (rw (eq-eqb e.0 key same) at found)
        | inr differs ↦ value_at-held l rest key value held.1 (rw (ne_eqb e.0 key differs) at found)
      ]

  pub IsPlace-map : (l m : Links T) → ((key : ℕ) → HasNode l key → HasNode m key) → (p : Option ℕ) → IsPlace l p → IsPlace m p
  IsPlace-map l m nodes None place = tt
  IsPlace-map l m nodes (Some key) place = nodes key place

  -- the places that a cut takes
  pub record HasPlaces (l : Links T) (first last : ℕ) : Type 0 where
    pub at_first : HasNode l first
    pub at_last : HasNode l last
    pub before : IsPlace l (previous_at l (Some first))
    pub behind : IsPlace l (next_at l (Some last))

  pub run_places : (l : Links T) (front : List (ℕ × T)) (head : ℕ × T) (tail back : List (ℕ × T)) (last : ℕ) (ss : List ℕ) → IsLinked l (front ++ (head ∷ tail ++ back)) ss → run_end head tail ≡ Some last → HasPlaces l head.0 last
  run_places l front head tail back last ss linked ends =
      let held = held_back l front (head ∷ tail ++ back) linked.values in
      let has = node_of_value (get l.nodes head.0) head.1 held.0 in
      let end = last_of-IsPlace l (Some head.0) tail has (held_front l tail back held.1) in
      let ahead = ahead_of_run l front head tail back ss linked in
      let next : IsJoined l (Some last) (first_place back) = rw ends at (behind_run l front head tail back ss linked) in
      record {
        at_first = has;
        at_last = rw ends at end;
        before = rw ahead.1 (last_place-IsPlace l front (held_front l front (head ∷ tail ++ back) linked.values));
        behind = rw next.0 (first_place-IsPlace l back (held_back l tail back held.1));
      }

  -- the list with one of its pairs in the middle
  pub linked_at : (l : Links T) (xs : List (ℕ × T)) (ss : List ℕ) (key : ℕ) (value : T) → value_of xs key ≡ Some value → IsLinked l xs ss → IsLinked l (before xs key ++ (key, value) ∷ behind xs key) ss
  linked_at l xs ss key value found linked =
      let P : List (ℕ × T) → Type 0 = λ ys. IsLinked l ys ss in subst P (split_at xs key value found) linked

  pub next_at-key : (l : Links T) (xs : List (ℕ × T)) (ss : List ℕ) (key : ℕ) → ContainsKey xs key → IsLinked l xs ss → next_at l (Some key) ≡ first_key (behind xs key)
  next_at-key l xs ss key present linked =
      let value = some_value (value_of xs key) present in
      (behind_run l (before xs key) (key, value.0) [] (behind xs key) ss (linked_at l xs ss key value.0 value.1 linked)).0

  pub previous_at-key : (l : Links T) (xs : List (ℕ × T)) (ss : List ℕ) (key : ℕ) → ContainsKey xs key → IsLinked l xs ss → previous_at l (Some key) ≡ last_key (before xs key)
  previous_at-key l xs ss key present linked =
      let value = some_value (value_of xs key) present in
      (ahead_of_run l (before xs key) (key, value.0) [] (behind xs key) ss (linked_at l xs ss key value.0 value.1 linked)).1 ∙ sym (last_key-place (before xs key))

  pub previous_at-end : (l : Links T) (xs : List (ℕ × T)) (ss : List ℕ) → IsLinked l xs ss → previous_at l None ≡ last_key xs
  previous_at-end l xs ss linked =
      (ring_middle l xs [] (rw append-nil linked.path)).1 ∙ sym (last_key-place xs)

  pub value_at-listed : (l : Links T) (len spare key : ℕ) → IsArena l len spare → value_at l key ≡ value_of (listed l len) key
  value_at-listed l len spare key arena = value_at-value_of l key (listed l len) arena.linked.values (arena.linked.others key)

  pub key_places : (l : Links T) (len spare key : ℕ) → IsArena l len spare → ContainsKey (listed l len) key → HasPlaces l key key
  key_places l len spare key arena present =
      let value = some_value (value_of (listed l len) key) present in
      run_places l (before (listed l len) key) (key, value.0) [] (behind (listed l len) key) key arena.spare_keys (linked_at l (listed l len) arena.spare_keys key value.0 value.1 arena.linked) refl
