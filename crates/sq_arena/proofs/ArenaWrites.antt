-- What each call makes of the list of an arena.
use Rattle.std.proofs.Common.{◌≡◌, ◌≢◌, ℕ, suc, ◌+◌, ◌-◌, ◌<◌, ◌≤◌, ◌^◌, List, [], ◌∷◌, ◌++◌, map, length, slice_index_or, Option, None, Some, IsSome, is_some, refl, sym, ap, ◌∙◌, inl, inr, arith}
use Rattle.std.proofs.lemmas.Bool.{cases_eq, eq-eqb, ne_eqb}
use Rattle.std.proofs.lemmas.List.{append-nil}
use Rattle.slab.specs.Slab.{get, with_value as with_node}
use Rattle.sq_arena.specs.declared.links.Links.{Links}
use Rattle.sq_arena.specs.declared.links.Node.{Node}
use Rattle.sq_arena.specs.Entries.{value_of, ContainsKey, before, through, behind, without, last_key, with_value}
use Rattle.sq_arena.specs.Links.{once, times, IsPlace, places, HasNode, node_value, node_next, node_previous, value_at, next_at, previous_at, IsJoined, HoldsEach, IsSpareList, IsLinked, Joins, Splices, Fills, Frees, AddsSpare, SameLinks, FallsAt, listed, IsArena}
use Rattle.sq_arena.specs.Lends.{with_content, with_link_value}
use Rattle.sq_arena.proofs.NodeWrites.{write_of, write_keeps, write_keeps_others}
use Rattle.sq_arena.proofs.Paths.{place_cases, once_same, once_other, other_if, times-append, sources_last, IsPath-kept, IsPath-map}
use Rattle.sq_arena.proofs.Pieces.{first_place, HoldsEach-map, HoldsEach-kept, IsSpareList-kept, ring_middle, held_front, held_back}
use Rattle.sq_arena.proofs.EntriesLemmas.{split_at, some_value, through-behind}
use Rattle.sq_arena.proofs.ArenaLemmas.{Shows, Shows-linked, unlink_shows, insert_shows}
use Rattle.sq_arena.proofs.ArenaReads.{last_key-place, last_place-through, last_place-IsPlace, first_place-IsPlace, value_at-listed, key_places}

module _ {T : Type 0} where
  -- links that tell the same show the same list
  pub same_shows : (l m : Links T) (len spare : ℕ) → IsArena l len spare → ((key : ℕ) → get m.nodes key ≡ get l.nodes key) → m.first ≡ l.first → m.last ≡ l.last → m.vacant ≡ l.vacant → Shows m len spare (listed l len)
  same_shows l m len spare arena nodes first last vacant =
      let linked = arena.linked in
      let values : (key : ℕ) → value_at m key ≡ value_at l key = λ key. ap node_value (nodes key) in
      let has : (key : ℕ) → HasNode l key → HasNode m key = λ key some. ap is_some (nodes key) ∙ some in
      Shows-linked m len spare (listed l len) arena.spare_keys
      (record {
        values = HoldsEach-map l m values (listed l len) linked.values;
        others = λ key absent. values key ∙ linked.others key absent;
        path = IsPath-map (IsJoined l) (IsJoined m) (λ p q joined. (next p ∙ joined.0, previous q ∙ joined.1)) None _ linked.path;
        spare = rw vacant (IsSpareList-map l.vacant arena.spare_keys linked.spare);
        distinct = linked.distinct;
      })
      arena.counted arena.to_spare arena.bound
    where
      next : (p : Option ℕ) → next_at m p ≡ next_at l p
      next None = first
      next (Some key) = ap node_next (nodes key)

      previous : (p : Option ℕ) → previous_at m p ≡ previous_at l p
      previous None = last
      previous (Some key) = ap node_previous (nodes key)

      IsSpareList-map : (p : Option ℕ) (ss : List ℕ) → IsSpareList l p ss → IsSpareList m p ss
      IsSpareList-map p [] list = list
      IsSpareList-map p (key ∷ rest) list = (list.0, ap is_some (nodes key) ∙ list.1, rw (next (Some key)) (IsSpareList-map (next_at l (Some key)) rest list.2))

  pub kept_shows : (l m : Links T) (len spare : ℕ) → IsArena l len spare → SameLinks l m → Shows m len spare (listed l len)
  kept_shows l m len spare arena same =
      same_shows l m len spare arena (λ key. ap (λ slots. slice_index_or slots key None) same.nodes) same.first same.last same.vacant

  -- a key with no node stands nowhere
  absent_entry : (l : Links T) (key : ℕ) → get l.nodes key ≡ None → (xs : List (ℕ × T)) → HoldsEach l xs → times (Some key) (places xs) ≡ 0
  absent_entry l key absent [] held = refl
  absent_entry l key absent (e ∷ rest) held =
      let here : value_at l key ≡ None = ap node_value absent in
      let none : once (Some key) (Some e.0) ≡ 0 = once_other (Some key) (Some e.0) (λ same. let same_key : key ≡ e.0 = cc in let gone : value_at l e.0 ≡ None = ap (value_at l) (sym same_key) ∙ here in absurd (cc (gone, held.0))) in
      omega (arith, absent_entry l key absent rest held.1)

  absent_spare : (l : Links T) (key : ℕ) → get l.nodes key ≡ None → (p : Option ℕ) (ss : List ℕ) → IsSpareList l p ss → times (Some key) (map Some ss) ≡ 0
  absent_spare l key absent p [] list = refl
  absent_spare l key absent p (k ∷ rest) list =
      let none : once (Some key) (Some k) ≡ 0 = once_other (Some key) (Some k) (λ same. let same_key : key ≡ k = cc in let gone : get l.nodes k ≡ None = ap (get l.nodes) (sym same_key) ∙ absent in absurd (cc (ap is_some gone, list.1))) in
      omega (arith, absent_spare l key absent (next_at l (Some k)) rest list.2)

  -- one more key to spare
  pub spare_shows : (l m : Links T) (len spare key : ℕ) → IsArena l len spare → AddsSpare l m key → len + spare + 1 < 2 ^ 32 → Shows m len (spare + 1) (listed l len)
  spare_shows l m len spare key arena adds bound =
      let linked = arena.linked in
      let xs = listed l len in
      let c : Option ℕ = Some key in
      let in_list = absent_entry l key adds.was_absent (listed l len) linked.values in
      let in_spare = absent_spare l key adds.was_absent l.vacant arena.spare_keys linked.spare in
      let in_ring = times-append c (places (listed l len)) (None ∷ []) in
      let kept : (p q : Option ℕ) → p ≢ Some key → q ≢ Some key → IsJoined l p q → IsJoined m p q =
      λ p q source target joined. (adds.next p source ∙ joined.0, adds.previous q target ∙ joined.1) in
      Shows-linked m len (spare + 1) (listed l len) (key ∷ arena.spare_keys)
      (record {
        values = HoldsEach-map l m adds.values (listed l len) linked.values;
        others = λ other absent. adds.values other ∙ linked.others other absent;
        path = IsPath-kept (IsJoined l) (IsJoined m) c c kept None (places (listed l len) ++ None ∷ [])
            (omega (arith, sources_last c None (places (listed l len) ++ None ∷ []))) (omega arith) linked.path;
        spare = (adds.vacant, adds.node, rw adds.link (IsSpareList-kept l m c adds.next adds.nodes l.vacant arena.spare_keys in_spare linked.spare));
        distinct = λ p. elim (place_cases p (Some key)) [
          | inl same ↦ omega (arith, once_same c, ap (λ q. once q None) same, ap (λ q. once q (Some key)) same, ap (λ q. times q (places (listed l len))) same, ap (λ q. times q (map Some arena.spare_keys)) same)
          | inr differs ↦ omega (arith, linked.distinct p, once_other p (Some key) differs)
        ];
      })
      arena.counted (omega (arith, arena.to_spare)) (omega arith)

  -- another value at a key
  places-with_value : (xs : List (ℕ × T)) (key : ℕ) (value : T) → places (with_value xs key value) ≡ places xs
  places-with_value [] key value = refl
  places-with_value (e ∷ rest) key value =
      elim (cases_eq e.0 key) [
        | inl same ↦ rw (eq-eqb e.0 key same) (ap (λ k. Some k ∷ places rest) (sym same))
        | inr differs ↦ rw (ne_eqb e.0 key differs) (ap (λ ps. Some e.0 ∷ ps) (places-with_value rest key value))
      ]

  length-with_value : (xs : List (ℕ × T)) (key : ℕ) (value : T) → length (with_value xs key value) ≡ length xs
  length-with_value [] key value = refl
  length-with_value (e ∷ rest) key value =
      elim (cases_eq e.0 key) [
        | inl same ↦ rw (eq-eqb e.0 key same)
        | inr differs ↦ rw (ne_eqb e.0 key differs) (ap suc (length-with_value rest key value))
      ]

  HoldsEach-with_value : (l m : Links T) (key : ℕ) (value : T) → value_at m key ≡ Some value → ((other : ℕ) → other ≢ key → value_at m other ≡ value_at l other) → (xs : List (ℕ × T)) → times (Some key) (places xs) ≤ 1 → HoldsEach l xs → HoldsEach m (with_value xs key value)
  HoldsEach-with_value l m key value set others [] once_only held = tt
  HoldsEach-with_value l m key value set others (e ∷ rest) once_only held =
      elim (cases_eq e.0 key) [
        | inl same ↦
            let one : once (Some key) (Some e.0) ≡ 1 = ap (λ k. once (Some key) (Some k)) same ∙ once_same (Some key) in
            rw (eq-eqb e.0 key same) (set, HoldsEach-kept l m key others rest (omega arith) held.1)
        | inr differs ↦ rw (ne_eqb e.0 key differs) (others e.0 differs ∙ held.0, HoldsEach-with_value l m key value set others rest (omega arith) held.1)
      ]

  pub value_shows : (l : Links T) (len spare key : ℕ) (node : Node T) (value : T) → IsArena l len spare → get l.nodes key ≡ Some node → ContainsKey (listed l len) key → Shows (record l { nodes = with_node l.nodes key (with_content node value) }) len spare (with_value (listed l len) key value)
  value_shows l len spare key node value arena found present =
      let linked = arena.linked in
      let new : Node T = with_content node value in
      let m : Links T = record l { nodes = with_node l.nodes key (with_content node value) } in
      let values : (other : ℕ) → other ≢ key → value_at (record l { nodes = with_node l.nodes key (with_content node value) }) other ≡ value_at l other = write_keeps_others node_value l.nodes key node new found in
      let set : value_at (record l { nodes = with_node l.nodes key (with_content node value) }) key ≡ Some value = ap node_value (write_of l.nodes key node new found).changed in
      let same_places = places-with_value (listed l len) key value in
      Shows-linked m len spare (with_value (listed l len) key value) arena.spare_keys
      (record {
        values = HoldsEach-with_value l m key value set values (listed l len) (omega (arith, linked.distinct (Some key))) linked.values;
        others = λ other absent. elim (cases_eq other key) [
          | inl same ↦ absurd (stands (listed l len) present (ap (λ k. times (Some k) (places (listed l len))) (sym same) ∙ ap (times (Some other)) (sym same_places) ∙ absent))
          | inr differs ↦ values other differs ∙ linked.others other (ap (times (Some other)) (sym same_places) ∙ absent)
        ];
        path = rw same_places (IsPath-map (IsJoined l) (IsJoined m) (λ p q joined. (next p ∙ joined.0, previous q ∙ joined.1)) None _ linked.path);
        spare = IsSpareList-kept l m None (λ p _. next p) (λ other has. write_keeps is_some l.nodes key node new found refl other ∙ has) l.vacant arena.spare_keys (omega (arith, linked.distinct None)) linked.spare;
        distinct = λ p. rw same_places (linked.distinct p);
      })
      (length-with_value (listed l len) key value ∙ arena.counted) arena.to_spare arena.bound
    where
      next : (p : Option ℕ) → next_at (record l { nodes = with_node l.nodes key (with_content node value) }) p ≡ next_at l p
      next None = refl
      next (Some other) = write_keeps node_next l.nodes key node _ found refl other

      previous : (p : Option ℕ) → previous_at (record l { nodes = with_node l.nodes key (with_content node value) }) p ≡ previous_at l p
      previous None = refl
      previous (Some other) = write_keeps node_previous l.nodes key node _ found refl other

      stands : (xs : List (ℕ × T)) → ContainsKey xs key → times (Some key) (places xs) ≡ 0 → ⊥
      stands [] has none = cc
      stands (e ∷ rest) has none =
          let differs = other_if (Some key) (Some e.0) (omega arith) in
          stands rest (rw (ne_eqb e.0 key (λ same. differs (ap Some same))) at has) (omega arith)

  pub link_value_shows : (l : Links T) (len spare key : ℕ) (value : T) → IsArena l len spare → ContainsKey (listed l len) key → Shows (with_link_value l key value) len spare (with_value (listed l len) key value)
  link_value_shows l len spare key value arena present =
      let node = some_value (get l.nodes key) (key_places l len spare key arena present).at_first in
      rw node.1 (value_shows l len spare key node.0 value arena node.1 present)

  -- the first key to spare
  pub vacant_some : (l : Links T) (p : Option ℕ) (ss : List ℕ) → IsSpareList l p ss → 0 < length ss → IsSome p
  vacant_some l p [] list room = absurd (omega arith)
  vacant_some l p (key ∷ rest) list room = ap is_some list.0

  pub vacant_place : (l : Links T) (p : Option ℕ) (ss : List ℕ) → IsSpareList l p ss → IsPlace l p
  vacant_place l p [] list = rw list tt
  vacant_place l p (key ∷ rest) list = rw list.0 list.1

  pub vacant_fresh : (l : Links T) (len spare key : ℕ) → IsArena l len spare → l.vacant ≡ Some key → value_of (listed l len) key ≡ None
  vacant_fresh l len spare key arena vacant =
      sym (value_at-listed l len spare key arena) ∙ arena.linked.others key (by_spare arena.spare_keys arena.linked)
    where
      by_spare : (ss : List ℕ) → IsLinked l (listed l len) ss → times (Some key) (places (listed l len)) ≡ 0
      by_spare [] linked = absurd (cc (vacant, linked.spare))
      by_spare (k ∷ rest) linked =
          let both : Some key ≡ Some k = sym vacant ∙ linked.spare.0 in
          let one : once (Some key) (Some k) ≡ 1 = ap (once (Some key)) (sym both) ∙ once_same (Some key) in
          omega (arith, linked.distinct (Some key))

  -- a value behind a place of the list
  pub inserted_shows : (l mid m : Links T) (len spare : ℕ) (place : Option ℕ) (front back : List (ℕ × T)) (key : ℕ) (value : T) → IsArena l len spare → FallsAt (listed l len) place front back → Fills l mid key value → Splices mid m place key key → 0 < spare → Shows m (len + 1) (spare - 1) (front ++ (key, value) ∷ back)
  inserted_shows l mid m len spare place front back key value arena falls fills splices room =
      insert_shows l mid m len spare front back key value arena falls.whole fills (rw (sym falls.ends ∙ last_key-place front) at splices) room

  -- the places that such an insertion takes
  pub place_of_front : (l : Links T) (len spare : ℕ) (place : Option ℕ) (front back : List (ℕ × T)) → IsArena l len spare → FallsAt (listed l len) place front back → IsPlace l place
  place_of_front l len spare place front back arena falls =
      let held = rw falls.whole at arena.linked.values in
      rw (sym falls.ends ∙ last_key-place front) (last_place-IsPlace l front (held_front l front back held))

  pub place_behind_front : (l : Links T) (len spare : ℕ) (place : Option ℕ) (front back : List (ℕ × T)) → IsArena l len spare → FallsAt (listed l len) place front back → IsPlace l (next_at l place)
  place_behind_front l len spare place front back arena falls =
      let linked : IsLinked l (front ++ back) arena.spare_keys = rw falls.whole at arena.linked in
      let joined = ring_middle l front back linked.path in
      let named : next_at l place ≡ first_place back = ap (next_at l) (sym falls.ends ∙ last_key-place front) ∙ joined.0 in
      rw named (first_place-IsPlace l back (held_back l front back linked.values))

  -- the list falls into two behind each of its keys, and at its end
  pub FallsAt-key : (xs : List (ℕ × T)) (key : ℕ) → ContainsKey xs key → FallsAt xs (Some key) (through xs key) (behind xs key)
  FallsAt-key xs key present = record {
    whole = sym (through-behind xs key);
    ends = last_key-place (through xs key) ∙ last_place-through xs key present;
  }

  pub FallsAt-end : (xs : List (ℕ × T)) → FallsAt xs (last_key xs) xs []
  FallsAt-end xs = record { whole = sym (append-nil xs); ends = refl }

  -- the key leaves the list
  pub unlinked_shows : (l mid m : Links T) (len spare key : ℕ) (value : T) → IsArena l len spare → ContainsKey (listed l len) key → Joins l mid (previous_at l (Some key)) (next_at l (Some key)) → Frees mid m key value → Shows m (len - 1) (spare + 1) (without (listed l len) key) × (value_of (listed l len) key ≡ Some value)
  unlinked_shows l mid m len spare key value arena present joins frees =
      let xs = listed l len in
      let held = some_value (value_of (listed l len) key) present in
      let shows = unlink_shows l mid m len spare (before (listed l len) key) (behind (listed l len) key) key held.0 value arena (split_at (listed l len) key held.0 held.1) joins frees in
      (shows.0, held.1 ∙ ap Some (sym shows.1))
