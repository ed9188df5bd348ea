-- A run of an arena moves to another place.
use Rattle.std.proofs.Common.{◌≡◌, ℕ, List, [], ◌∷◌, ◌++◌, None, Some, sym, ap, subst, ◌∙◌}
use Rattle.slab.specs.Slab.{get}
use Rattle.sq_arena.specs.declared.links.Links.{Links}
use Rattle.sq_arena.specs.Entries.{value_of, ContainsKey, before, through, behind, starting_at, without_run, IsRun, move_run_after}
use Rattle.sq_arena.specs.Links.{IsPath, IsPlace, places, HasNode, next_at, previous_at, IsJoined, HoldsEach, IsLinked, Joins, Splices, listed, IsArena}
use Rattle.sq_arena.proofs.Pieces.{first_place, last_place, run_end, node_of_value, pieces_of, ahead_of_run, behind_run, HoldsEach-append, held_back, ring_of, ring_middle}
use Rattle.sq_arena.proofs.Relinks.{cut_pieces}
use Rattle.sq_arena.proofs.EntriesLemmas.{some_value, through-behind, HasShape, shape_of}
use Rattle.sq_arena.proofs.ArenaLemmas.{Shows, move_shows}
use Rattle.sq_arena.proofs.ArenaReads.{last_place-snoc, last_place-through, first_place-IsPlace, value_at-held, HasPlaces, run_places}

module _ {T : Type 0} where
  run_end-shape : (xs : List (ℕ × T)) (first last : ℕ) (shape : HasShape xs first last) → run_end (first, shape.value) shape.tail ≡ Some last
  run_end-shape xs first last shape =
      let same : (first, shape.value) ∷ shape.tail ≡ shape.lead ++ (last, shape.last_value) ∷ [] = sym shape.is ∙ shape.ends in
      ap last_place same ∙ last_place-snoc shape.lead (last, shape.last_value)

  whole-shape : (xs : List (ℕ × T)) (first last : ℕ) (shape : HasShape xs first last) → xs ≡ before xs first ++ ((first, shape.value) ∷ shape.tail ++ behind (starting_at xs first) last)
  whole-shape xs first last shape = shape.whole ∙ ap (λ r. before xs first ++ (r ++ behind (starting_at xs first) last)) shape.is

  -- the list around the run
  pub linked_around : (l : Links T) (xs : List (ℕ × T)) (ss : List ℕ) (first last : ℕ) (shape : HasShape xs first last) → IsLinked l xs ss → IsLinked l (before xs first ++ ((first, shape.value) ∷ shape.tail ++ behind (starting_at xs first) last)) ss
  linked_around l xs ss first last shape linked =
      let P : List (ℕ × T) → Type 0 = λ ys. IsLinked l ys ss in subst P (whole-shape xs first last shape) linked

  -- the places that the cut takes
  pub cut_places : (l : Links T) (len spare first last : ℕ) → IsArena l len spare → IsRun (listed l len) first last → HasPlaces l first last
  cut_places l len spare first last arena is_run =
      let shape = shape_of (listed l len) first last is_run in
      run_places l (before (listed l len) first) (first, shape.value) shape.tail (behind (starting_at (listed l len) first) last) last arena.spare_keys
      (linked_around l (listed l len) arena.spare_keys first last shape arena.linked)
      (run_end-shape (listed l len) first last shape)

  -- the run was cut out of the list
  pub record IsCut (l : Links T) (xs : List (ℕ × T)) (first last : ℕ) : Type 0 where
    pub path : IsPath (IsJoined l) None (places (without_run xs first last) ++ None ∷ [])
    pub values : HoldsEach l (without_run xs first last)

  pub cut_of : (l mid : Links T) (len spare first last : ℕ) → IsArena l len spare → IsRun (listed l len) first last → Joins l mid (previous_at l (Some first)) (next_at l (Some last)) → IsCut mid (listed l len) first last
  cut_of l mid len spare first last arena is_run joins =
      let xs : List (ℕ × T) = listed l len in
      let ss = arena.spare_keys in
      let shape = shape_of (listed l len) first last is_run in
      let front : List (ℕ × T) = before (listed l len) first in
      let back : List (ℕ × T) = behind (starting_at (listed l len) first) last in
      let linked = linked_around l (listed l len) arena.spare_keys first last shape arena.linked in
      let ahead = ahead_of_run l front (first, shape.value) shape.tail back ss linked in
      let next : IsJoined l (Some last) (first_place back) = rw (run_end-shape (listed l len) first last shape) at (behind_run l front (first, shape.value) shape.tail back ss linked) in
      let joins' : Joins l mid (last_place front) (first_place back) = rw (ahead.1, next.0) at joins in
      let pieces = cut_pieces l mid front (first, shape.value) shape.tail back ss joins' (pieces_of l front (first, shape.value) shape.tail back ss linked) in
      record {
        path = ring_of mid front back pieces.front_path joins'.joined pieces.back_path;
        values = HoldsEach-append mid front back pieces.front_values pieces.back_values;
      }

  -- the place that the splice takes
  pub at_after : (mid : Links T) (xs : List (ℕ × T)) (first last after : ℕ) → IsCut mid xs first last → ContainsKey (without_run xs first last) after → HasNode mid after
  at_after mid xs first last after cut present =
      let value = some_value (value_of (without_run xs first last) after) present in
      node_of_value (get mid.nodes after) value.0 (value_at-held mid (without_run xs first last) after value.0 cut.values value.1)

  pub behind_after : (mid : Links T) (xs : List (ℕ × T)) (first last after : ℕ) → IsCut mid xs first last → ContainsKey (without_run xs first last) after → IsPlace mid (next_at mid (Some after))
  behind_after mid xs first last after cut present =
      let ys : List (ℕ × T) = without_run xs first last in
      let whole : without_run xs first last ≡ through ys after ++ behind ys after = sym (through-behind ys after) in
      let P : List (ℕ × T) → Type 0 = λ zs. IsPath (IsJoined mid) None (places zs ++ None ∷ []) in
      let joined = ring_middle mid (through ys after) (behind ys after) (subst P whole cut.path) in
      let named : next_at mid (Some after) ≡ first_place (behind ys after) = ap (next_at mid) (sym (last_place-through ys after present)) ∙ joined.0 in
      rw named (first_place-IsPlace mid (behind ys after) (held_back mid (through ys after) (behind ys after) (subst (HoldsEach mid) whole cut.values)))

  pub moved_shows : (l mid m : Links T) (len spare first last after : ℕ) → IsArena l len spare → IsRun (listed l len) first last → ContainsKey (without_run (listed l len) first last) after → Joins l mid (previous_at l (Some first)) (next_at l (Some last)) → Splices mid m (Some after) first last → Shows m len spare (move_run_after (listed l len) first last after)
  moved_shows l mid m len spare first last after arena is_run present joins splices =
      let xs : List (ℕ × T) = listed l len in
      let ys : List (ℕ × T) = without_run (listed l len) first last in
      let shape = shape_of (listed l len) first last is_run in
      let splices' : Splices mid m (last_place (through ys after)) first last = rw (last_place-through ys after present) splices in
      let shows = move_shows l mid m len spare (before (listed l len) first) (first, shape.value) shape.tail (behind (starting_at (listed l len) first) last) (through ys after) (behind ys after) last arena
      (whole-shape (listed l len) first last shape)
      (run_end-shape (listed l len) first last shape)
      joins
      (sym (through-behind ys after))
      splices' in
      let P : List (ℕ × T) → Type 0 = λ r. Shows m len spare (through ys after ++ (r ++ behind ys after)) in
      subst P (sym shape.is) shows
