-- What each change of the links makes of the list.
use Rattle.std.proofs.Common.{◌≡◌, ◌≢◌, ℕ, ◌+◌, ◌≤◌, List, [], ◌∷◌, ◌++◌, map, Option, None, Some, sym, ap, ◌∙◌, inl, inr, arith}
use Rattle.std.proofs.lemmas.Bool.{cases_eq}
use Rattle.sq_arena.specs.declared.links.Links.{Links}
use Rattle.sq_arena.specs.Links.{once, times, places, value_at, next_at, IsJoined, IsLinked, Joins, Fills, Frees}
use Rattle.slab.specs.Slab.{get}
use Rattle.sq_arena.proofs.Paths.{once_same, once_other, other_if, times-places-append, times-None-keys, sources, sources_last, IsPath-kept, IsPath-map}
use Rattle.sq_arena.proofs.Pieces.{first_place, later_places, last_place, run_end, node_of_value, later_times, later_sources, HoldsEach-append, held_front, held_back, HoldsEach-map, HoldsEach-kept, IsSpareList-kept, InPieces, ring_of, ring_front, ring_back, pieces_join_up}

module _ {T : Type 0} where
  -- no place stands twice in the pieces or among the keys to spare
  abbrev AreDistinct : List (ℕ × T) → ℕ × T → List (ℕ × T) → List (ℕ × T) → List ℕ → Type 0
  AreDistinct front head tail back ss = (p : Option ℕ) → once p None + times p (places front) + times p (places (head ∷ tail)) + times p (places back) + times p (map Some ss) ≤ 1

  -- within the pieces c names no next place, nor does a key to spare
  abbrev pub next_uses : Option ℕ → List (ℕ × T) → ℕ × T → List (ℕ × T) → List (ℕ × T) → List ℕ → ℕ
  next_uses c front head tail back ss = sources c None (places front) + sources c (Some head.0) (places tail) + sources c (first_place back) (later_places back) + times c (map Some ss)

  -- within the pieces d names no previous place
  abbrev pub previous_uses : Option ℕ → List (ℕ × T) → List (ℕ × T) → List (ℕ × T) → ℕ
  previous_uses d front tail back = times d (places front) + times d (places tail) + times d (later_places back)

  last_place_unused : (front : List (ℕ × T)) (head : ℕ × T) (tail back : List (ℕ × T)) (ss : List ℕ) → AreDistinct front head tail back ss → next_uses (last_place front) front head tail back ss ≡ 0
  last_place_unused front head tail back ss distinct =
      let c : Option ℕ = last_place front in
      omega (arith, sources_last c None (places front), once_same c, sources_last c (Some head.0) (places tail), later_sources c back, distinct c)

  run_end_unused : (front : List (ℕ × T)) (head : ℕ × T) (tail back : List (ℕ × T)) (ss : List ℕ) → AreDistinct front head tail back ss → next_uses (run_end head tail) front head tail back ss ≡ 0
  run_end_unused front head tail back ss distinct =
      let c : Option ℕ = run_end head tail in
      omega (arith, sources_last c None (places front), once_same c, sources_last c (Some head.0) (places tail), later_sources c back, distinct c)

  head_unused : (front : List (ℕ × T)) (head : ℕ × T) (tail back : List (ℕ × T)) (ss : List ℕ) → AreDistinct front head tail back ss → previous_uses (Some head.0) front tail back ≡ 0
  head_unused front head tail back ss distinct =
      let d : Option ℕ = Some head.0 in
      omega (arith, once_same d, later_times d back, distinct d)

  first_place_unused : (front : List (ℕ × T)) (head : ℕ × T) (tail back : List (ℕ × T)) (ss : List ℕ) → AreDistinct front head tail back ss → previous_uses (first_place back) front tail back ≡ 0
  first_place_unused front head tail back ss distinct =
      let d : Option ℕ = first_place back in
      omega (arith, once_same d, later_times d back, distinct d)

  ends_differ : (front : List (ℕ × T)) (head : ℕ × T) (tail back : List (ℕ × T)) (ss : List ℕ) → AreDistinct front head tail back ss → last_place front ≢ run_end head tail
  ends_differ front head tail back ss distinct same =
      let c : Option ℕ = run_end head tail in
      let once_more : once c (last_place front) ≡ 1 = ap (once c) same ∙ once_same c in
      absurd (omega (arith, sources_last c None (places front), once_same c, sources_last c (Some head.0) (places tail), distinct c))

  heads_differ : (front : List (ℕ × T)) (head : ℕ × T) (tail back : List (ℕ × T)) (ss : List ℕ) → AreDistinct front head tail back ss → Some head.0 ≢ first_place back
  heads_differ front head tail back ss distinct same =
      let d : Option ℕ = Some head.0 in
      let once_more : once d (first_place back) ≡ 1 = ap (once d) (sym same) ∙ once_same d in
      absurd (omega (arith, once_same d, later_times d back, distinct d))

  -- what stays joined
  pub IsJoined-kept : (l m : Links T) (c d : Option ℕ) → Joins l m c d → (p q : Option ℕ) → p ≢ c → q ≢ d → IsJoined l p q → IsJoined m p q
  IsJoined-kept l m c d joins p q source target joined = (joins.next p source ∙ joined.0, joins.previous q target ∙ joined.1)

  -- a join at the ends of pieces leaves the pieces
  pub InPieces-joined : (l m : Links T) (c d : Option ℕ) (front : List (ℕ × T)) (head : ℕ × T) (tail back : List (ℕ × T)) (ss : List ℕ) → Joins l m c d → next_uses c front head tail back ss ≡ 0 → previous_uses d front tail back ≡ 0 → InPieces l front head tail back ss → InPieces m front head tail back ss
  InPieces-joined l m c d front head tail back ss joins no_next no_previous pieces =
      let kept = IsJoined-kept l m c d joins in
      record {
        front_values = HoldsEach-map l m joins.values front pieces.front_values;
        run_values = HoldsEach-map l m joins.values (head ∷ tail) pieces.run_values;
        back_values = HoldsEach-map l m joins.values back pieces.back_values;
        others = λ key absent. joins.values key ∙ pieces.others key absent;
        front_path = IsPath-kept (IsJoined l) (IsJoined m) c d kept None (places front) (omega arith) (omega arith) pieces.front_path;
        run_path = IsPath-kept (IsJoined l) (IsJoined m) c d kept (Some head.0) (places tail) (omega arith) (omega arith) pieces.run_path;
        back_path = IsPath-kept (IsJoined l) (IsJoined m) c d kept (first_place back) (later_places back) (omega arith) (omega arith) pieces.back_path;
        spare = rw joins.vacant (IsSpareList-kept l m c joins.next joins.nodes l.vacant ss (omega arith) pieces.spare);
        distinct = pieces.distinct;
      }

  -- the run is cut out
  pub cut_pieces : (l m : Links T) (front : List (ℕ × T)) (head : ℕ × T) (tail back : List (ℕ × T)) (ss : List ℕ) → Joins l m (last_place front) (first_place back) → InPieces l front head tail back ss → InPieces m front head tail back ss
  cut_pieces l m front head tail back ss joins pieces =
      InPieces-joined l m (last_place front) (first_place back) front head tail back ss joins (last_place_unused front head tail back ss pieces.distinct) (first_place_unused front head tail back ss pieces.distinct) pieces

  -- the run is joined in between front and back
  pub spliced : (l between m : Links T) (front : List (ℕ × T)) (head : ℕ × T) (tail back : List (ℕ × T)) (ss : List ℕ) → InPieces l front head tail back ss → Joins l between (last_place front) (Some head.0) → Joins between m (run_end head tail) (first_place back) → IsLinked m (front ++ (head ∷ tail ++ back)) ss
  spliced l between m front head tail back ss pieces first second =
      let distinct = pieces.distinct in
      let pieces_between = InPieces-joined l between (last_place front) (Some head.0) front head tail back ss first (last_place_unused front head tail back ss distinct) (head_unused front head tail back ss distinct) pieces in
      let pieces_after = InPieces-joined between m (run_end head tail) (first_place back) front head tail back ss second (run_end_unused front head tail back ss distinct) (first_place_unused front head tail back ss distinct) pieces_between in
      let ahead = IsJoined-kept between m (run_end head tail) (first_place back) second (last_place front) (Some head.0) (ends_differ front head tail back ss distinct) (heads_differ front head tail back ss distinct) first.joined in
      pieces_join_up m front head tail back ss pieces_after ahead second.joined

  -- the first key to spare holds a value: it is a run of its own
  pub filled_pieces : (l m : Links T) (front back : List (ℕ × T)) (key : ℕ) (value : T) (ss : List ℕ) → IsLinked l (front ++ back) (key ∷ ss) → Fills l m key value → InPieces m front (key, value) [] back ss
  filled_pieces l m front back key value ss linked fills =
      let same : (p q : Option ℕ) → IsJoined l p q → IsJoined m p q = λ p q joined. (fills.next p ∙ joined.0, fills.previous q ∙ joined.1) in
      let counts = times-places-append (Some key) front back in
      let here = once_same (Some key) in
      let alone = linked.distinct (Some key) in
      let held = linked.values in
      record {
        front_values = HoldsEach-kept l m key fills.values front (omega arith) (held_front l front back held);
        run_values = (fills.filled, tt);
        back_values = HoldsEach-kept l m key fills.values back (omega arith) (held_back l front back held);
        others = λ other absent.
            let differs : Some key ≢ Some other = other_if (Some other) (Some key) (omega arith) in
            fills.values other (λ same'. differs (ap Some (sym same'))) ∙ linked.others other (omega (arith, times-places-append (Some other) front back));
        front_path = IsPath-map (IsJoined l) (IsJoined m) same None (places front) (ring_front l front back linked.path);
        run_path = tt;
        back_path = IsPath-map (IsJoined l) (IsJoined m) same (first_place back) (later_places back) (ring_back l front back linked.path);
        spare = rw fills.vacant (IsSpareList-kept l m None (λ other _. fills.next other) fills.nodes (next_at l (Some key)) ss (times-None-keys ss) linked.spare.2);
        distinct = λ p. omega (arith, linked.distinct p, times-places-append p front back);
      }

  -- a run of one pair is given up
  pub freed : (l m : Links T) (front back : List (ℕ × T)) (key : ℕ) (value : T) (ss : List ℕ) → InPieces l front (key, value) [] back ss → IsJoined l (last_place front) (first_place back) → Frees l m key value → IsLinked m (front ++ back) (key ∷ ss)
  freed l m front back key value ss pieces joined frees =
      let distinct = pieces.distinct in
      let no_next = run_end_unused front (key, value) [] back ss distinct in
      let no_previous = head_unused front (key, value) [] back ss distinct in
      let kept : (p q : Option ℕ) → p ≢ Some key → q ≢ Some key → IsJoined l p q → IsJoined m p q =
      λ p q source _ joined'. (frees.next p source ∙ joined'.0, frees.previous q ∙ joined'.1) in
      let differs = ends_differ front (key, value) [] back ss distinct in
      let alone = distinct (Some key) in
      let here = once_same (Some key) in
      record {
        values = HoldsEach-append m front back
            (HoldsEach-kept l m key frees.values front (omega arith) pieces.front_values)
            (HoldsEach-kept l m key frees.values back (omega arith) pieces.back_values);
        others = λ other absent. elim (cases_eq other key) [
          | inl same ↦ ap (value_at m) same ∙ frees.emptied
          | inr other_key ↦ frees.values other other_key ∙ pieces.others other
              (let none : once (Some other) (Some key) ≡ 0 = once_other (Some other) (Some key) (λ e. other_key (cc)) in omega (arith, times-places-append (Some other) front back))
        ];
        path = ring_of m front back
            (IsPath-kept (IsJoined l) (IsJoined m) (Some key) (Some key) kept None (places front) (omega arith) (omega arith) pieces.front_path)
            (frees.next (last_place front) differs ∙ joined.0, frees.previous (first_place back) ∙ joined.1)
            (IsPath-kept (IsJoined l) (IsJoined m) (Some key) (Some key) kept (first_place back) (later_places back) (omega arith) (omega arith) pieces.back_path);
        spare = (
          frees.vacant,
          frees.nodes key (node_of_value (get l.nodes key) value frees.held),
          rw frees.link (IsSpareList-kept l m (Some key) frees.next frees.nodes l.vacant ss (omega arith) pieces.spare),
        );
        distinct = λ p. omega (arith, distinct p, times-places-append p front back);
      }
