-- The list of an arena in three pieces: the pairs ahead of a run, the run, and the pairs behind it.
-- Within each piece the places are joined; which pieces are joined to each other is left open.
use Rattle.std.proofs.Common.{◌≡◌, ◌≢◌, ℕ, ◌+◌, ◌≤◌, List, [], ◌∷◌, ◌++◌, map, Option, None, Some, IsSome, refl, sym, ap, ◌∙◌, arith}
use Rattle.sq_arena.specs.declared.links.Links.{Links}
use Rattle.sq_arena.specs.declared.links.Node.{Node}
use Rattle.sq_arena.specs.Links.{once, times, IsPath, places, HasNode, node_value, value_at, next_at, IsJoined, HoldsEach, IsSpareList, IsLinked}
use Rattle.sq_arena.specs.Entries.{first_key}
use Rattle.sq_arena.proofs.Paths.{other_if, times-append, times-places-append, last_of, sources, sources_last, last_of-append, IsPath-append, path_front, path_back}

module _ {T : Type 0} where
  -- the place at the head of the pairs, or the end
  abbrev pub first_place : List (ℕ × T) → Option ℕ
  first_place xs = first_key xs

  -- the places behind that, up to the end
  abbrev pub later_places : List (ℕ × T) → List (Option ℕ)
  later_places [] = []
  later_places (e ∷ rest) = places rest ++ None ∷ []

  -- the last place of the pairs, or the end
  abbrev pub last_place : List (ℕ × T) → Option ℕ
  last_place xs = last_of None (places xs)

  -- the last place of the run
  abbrev pub run_end : ℕ × T → List (ℕ × T) → Option ℕ
  run_end head tail = last_of (Some head.0) (places tail)

  pub ring : (xs : List (ℕ × T)) → places xs ++ None ∷ [] ≡ first_place xs ∷ later_places xs
  ring [] = refl
  ring (e ∷ rest) = refl

  pub ring-append : (xs ys : List (ℕ × T)) → places (xs ++ ys) ++ None ∷ [] ≡ places xs ++ (first_place ys ∷ later_places ys)
  ring-append [] ys = ring ys
  ring-append (e ∷ xs) ys = ap (λ rest. Some e.0 ∷ rest) (ring-append xs ys)

  pub later_times : (p : Option ℕ) (xs : List (ℕ × T)) → once p (first_place xs) + times p (later_places xs) ≡ times p (places xs) + once p None
  later_times p [] = omega arith
  later_times p (e ∷ xs) = omega (arith, times-append p (places xs) (None ∷ []))

  pub later_sources : (c : Option ℕ) (xs : List (ℕ × T)) → sources c (first_place xs) (later_places xs) ≡ times c (places xs)
  later_sources c [] = refl
  later_sources c (e ∷ xs) =
      let end : once c (last_of (Some e.0) (places xs ++ None ∷ [])) ≡ once c None = ap (once c) (last_of-append (Some e.0) (places xs) (None ∷ [])) in
      omega (arith, sources_last c (Some e.0) (places xs ++ None ∷ []), times-append c (places xs) (None ∷ []), end)

  -- a node with a value is there
  pub node_of_value : (node : Option (Node T)) (value : T) → node_value node ≡ Some value → IsSome node
  node_of_value None value held = absurd (cc)
  node_of_value (Some node) value held = refl

  pub HoldsEach-append : (l : Links T) (xs ys : List (ℕ × T)) → HoldsEach l xs → HoldsEach l ys → HoldsEach l (xs ++ ys)
  HoldsEach-append l [] ys front back = back
  HoldsEach-append l (e ∷ xs) ys front back = (front.0, HoldsEach-append l xs ys front.1 back)

  pub held_front : (l : Links T) (xs ys : List (ℕ × T)) → HoldsEach l (xs ++ ys) → HoldsEach l xs
  held_front l [] ys held = tt
  held_front l (e ∷ xs) ys held = (held.0, held_front l xs ys held.1)

  pub held_back : (l : Links T) (xs ys : List (ℕ × T)) → HoldsEach l (xs ++ ys) → HoldsEach l ys
  held_back l [] ys held = held
  held_back l (e ∷ xs) ys held = held_back l xs ys held.1

  pub HoldsEach-map : (l m : Links T) → ((key : ℕ) → value_at m key ≡ value_at l key) → (xs : List (ℕ × T)) → HoldsEach l xs → HoldsEach m xs
  HoldsEach-map l m values [] held = tt
  HoldsEach-map l m values (e ∷ xs) held = (values e.0 ∙ held.0, HoldsEach-map l m values xs held.1)

  -- where one key's value changes, the pairs of other keys are held still
  pub HoldsEach-kept : (l m : Links T) (key : ℕ) → ((other : ℕ) → other ≢ key → value_at m other ≡ value_at l other) → (xs : List (ℕ × T)) → times (Some key) (places xs) ≡ 0 → HoldsEach l xs → HoldsEach m xs
  HoldsEach-kept l m key values [] absent held = tt
  HoldsEach-kept l m key values (e ∷ xs) absent held =
      let differs = other_if (Some key) (Some e.0) (omega arith) in
      (values e.0 (λ same. differs (ap Some same)) ∙ held.0, HoldsEach-kept l m key values xs (omega arith) held.1)

  -- where one place names another next one, the keys to spare stay
  pub IsSpareList-kept : (l m : Links T) (c : Option ℕ) → ((other : Option ℕ) → other ≢ c → next_at m other ≡ next_at l other) → ((key : ℕ) → HasNode l key → HasNode m key) → (p : Option ℕ) (ss : List ℕ) → times c (map Some ss) ≡ 0 → IsSpareList l p ss → IsSpareList m p ss
  IsSpareList-kept l m c next nodes p [] absent list = list
  IsSpareList-kept l m c next nodes p (key ∷ rest) absent list =
      let step : next_at m (Some key) ≡ next_at l (Some key) = next (Some key) (other_if c (Some key) (omega arith)) in
      (list.0, nodes key list.1, rw step (IsSpareList-kept l m c next nodes (next_at l (Some key)) rest (omega arith) list.2))

  pub record InPieces (l : Links T) (front : List (ℕ × T)) (head : ℕ × T) (tail back : List (ℕ × T)) (ss : List ℕ) : Type 0 where
    pub front_values : HoldsEach l front
    pub run_values : HoldsEach l (head ∷ tail)
    pub back_values : HoldsEach l back
    pub others : (key : ℕ) → times (Some key) (places front) + times (Some key) (places (head ∷ tail)) + times (Some key) (places back) ≡ 0 → value_at l key ≡ None
    pub front_path : IsPath (IsJoined l) None (places front)
    pub run_path : IsPath (IsJoined l) (Some head.0) (places tail)
    pub back_path : IsPath (IsJoined l) (first_place back) (later_places back)
    pub spare : IsSpareList l l.vacant ss
    pub distinct : (p : Option ℕ) → once p None + times p (places front) + times p (places (head ∷ tail)) + times p (places back) + times p (map Some ss) ≤ 1

  -- the ring of front and back alone
  pub ring_of : (l : Links T) (front back : List (ℕ × T)) → IsPath (IsJoined l) None (places front) → IsJoined l (last_place front) (first_place back) → IsPath (IsJoined l) (first_place back) (later_places back) → IsPath (IsJoined l) None (places (front ++ back) ++ None ∷ [])
  ring_of l front back front_path joined back_path =
      rw (ring-append front back) (IsPath-append (IsJoined l) None (places front) (first_place back ∷ later_places back) front_path (joined, back_path))

  pub ring_front : (l : Links T) (front back : List (ℕ × T)) → IsPath (IsJoined l) None (places (front ++ back) ++ None ∷ []) → IsPath (IsJoined l) None (places front)
  ring_front l front back path = path_front (IsJoined l) None (places front) (first_place back ∷ later_places back) (rw (ring-append front back) at path)

  pub ring_middle : (l : Links T) (front back : List (ℕ × T)) → IsPath (IsJoined l) None (places (front ++ back) ++ None ∷ []) → IsJoined l (last_place front) (first_place back)
  ring_middle l front back path = (path_back (IsJoined l) None (places front) (first_place back ∷ later_places back) (rw (ring-append front back) at path)).0

  pub ring_back : (l : Links T) (front back : List (ℕ × T)) → IsPath (IsJoined l) None (places (front ++ back) ++ None ∷ []) → IsPath (IsJoined l) (first_place back) (later_places back)
  ring_back l front back path = (path_back (IsJoined l) None (places front) (first_place back ∷ later_places back) (rw (ring-append front back) at path)).1

  -- a list falls into its pieces
  pub pieces_of : (l : Links T) (front : List (ℕ × T)) (head : ℕ × T) (tail back : List (ℕ × T)) (ss : List ℕ) → IsLinked l (front ++ (head ∷ tail ++ back)) ss → InPieces l front head tail back ss
  pieces_of l front head tail back ss linked =
      let J = IsJoined l in
      let rest : IsPath (IsJoined l) (Some head.0) (places (tail ++ back) ++ None ∷ []) = ring_back l front (head ∷ tail ++ back) linked.path in
      let rest' = rw (ring-append tail back) at rest in
      let held = held_back l front (head ∷ tail ++ back) linked.values in
      record {
        front_values = held_front l front (head ∷ tail ++ back) linked.values;
        run_values = (held.0, held_front l tail back held.1);
        back_values = held_back l tail back held.1;
        others = λ key absent. linked.others key (omega (arith, times-places-append (Some key) front (head ∷ tail ++ back), times-places-append (Some key) tail back));
        front_path = ring_front l front (head ∷ tail ++ back) linked.path;
        run_path = path_front J (Some head.0) (places tail) (first_place back ∷ later_places back) rest';
        back_path = (path_back J (Some head.0) (places tail) (first_place back ∷ later_places back) rest').1;
        spare = linked.spare;
        distinct = λ p. omega (arith, linked.distinct p, times-places-append p front (head ∷ tail ++ back), times-places-append p tail back);
      }

  -- what stands ahead of the run and behind it
  pub ahead_of_run : (l : Links T) (front : List (ℕ × T)) (head : ℕ × T) (tail back : List (ℕ × T)) (ss : List ℕ) → IsLinked l (front ++ (head ∷ tail ++ back)) ss → IsJoined l (last_place front) (Some head.0)
  ahead_of_run l front head tail back ss linked = ring_middle l front (head ∷ tail ++ back) linked.path

  pub behind_run : (l : Links T) (front : List (ℕ × T)) (head : ℕ × T) (tail back : List (ℕ × T)) (ss : List ℕ) → IsLinked l (front ++ (head ∷ tail ++ back)) ss → IsJoined l (run_end head tail) (first_place back)
  behind_run l front head tail back ss linked =
      let rest : IsPath (IsJoined l) (Some head.0) (places (tail ++ back) ++ None ∷ []) = ring_back l front (head ∷ tail ++ back) linked.path in
      (path_back (IsJoined l) (Some head.0) (places tail) (first_place back ∷ later_places back) (rw (ring-append tail back) at rest)).0

  -- pieces that are joined to each other are a list
  pub pieces_join_up : (l : Links T) (front : List (ℕ × T)) (head : ℕ × T) (tail back : List (ℕ × T)) (ss : List ℕ) → InPieces l front head tail back ss → IsJoined l (last_place front) (Some head.0) → IsJoined l (run_end head tail) (first_place back) → IsLinked l (front ++ (head ∷ tail ++ back)) ss
  pieces_join_up l front head tail back ss pieces ahead behind =
      let J = IsJoined l in
      let rest : IsPath (IsJoined l) (Some head.0) (places tail ++ (first_place back ∷ later_places back)) =
      IsPath-append J (Some head.0) (places tail) (first_place back ∷ later_places back) pieces.run_path (behind, pieces.back_path) in
      let whole : IsPath (IsJoined l) (Some head.0) (places (tail ++ back) ++ None ∷ []) = rw (ring-append tail back) rest in
      record {
        values = HoldsEach-append l front (head ∷ tail ++ back) pieces.front_values (pieces.run_values.0, HoldsEach-append l tail back pieces.run_values.1 pieces.back_values);
        others = λ key absent. pieces.others key (omega (arith, times-places-append (Some key) front (head ∷ tail ++ back), times-places-append (Some key) tail back));
        path = ring_of l front (head ∷ tail ++ back) pieces.front_path ahead whole;
        spare = pieces.spare;
        distinct = λ p. omega (arith, pieces.distinct p, times-places-append p front (head ∷ tail ++ back), times-places-append p tail back);
      }

  -- the list without the run
  pub others_of : (l : Links T) (front : List (ℕ × T)) (head : ℕ × T) (tail back : List (ℕ × T)) (ss : List ℕ) → InPieces l front head tail back ss → IsJoined l (last_place front) (first_place back) → (front' back' : List (ℕ × T)) → front ++ back ≡ front' ++ back' → InPieces l front' head tail back' ss
  others_of l front head tail back ss pieces joined front' back' same =
      let path = ring_of l front back pieces.front_path joined pieces.back_path in
      let path' = rw same at path in
      let held = rw same at (HoldsEach-append l front back pieces.front_values pieces.back_values) in
      let counts : (p : Option ℕ) → times p (places front) + times p (places back) ≡ times p (places front') + times p (places back') =
      λ p. sym (times-places-append p front back) ∙ ap (λ xs. times p (places xs)) same ∙ times-places-append p front' back' in
      record {
        front_values = held_front l front' back' held;
        run_values = pieces.run_values;
        back_values = held_back l front' back' held;
        others = λ key absent. pieces.others key (omega (arith, counts (Some key)));
        front_path = ring_front l front' back' path';
        run_path = pieces.run_path;
        back_path = ring_back l front' back' path';
        spare = pieces.spare;
        distinct = λ p. omega (arith, pieces.distinct p, counts p);
      }
