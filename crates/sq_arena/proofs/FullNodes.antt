-- The links of values that stand under their positions, in a slab that is full: a full slab has a node at each key below
-- its capacity.
use Rattle.std.proofs.Common.{◌≡◌, ◌≢◌, ℕ, zero, suc, ◌+◌, ◌-◌, ◌<◌, ◌≤◌, ◌^◌, get_or, take, List, [], ◌∷◌, ◌++◌, map, length, Option, None, Some, IsSome, is_some, count_by, cond, slice_index_or, inl, inr, refl, sym, ap, ◌∙◌, subst, arith}
use Rattle.std.proofs.lemmas.List.Sums.{count_by-le-length, sum_by-cons}
use Rattle.std.proofs.lemmas.List.{append-nil, take_more, length-take-le, take_all}
use Rattle.sq_arena.specs.declared.links.Links.{Links}
use Rattle.sq_arena.specs.Links.{keys_from, once, times, HasNode, value_at, IsSpareList, IsLinked, IsPlace, next_at, previous_at, SetsNext, Fills, Splices, Joins}
use Rattle.sq_arena.proofs.Paths.{once_same, once_other, place_cases}
use Rattle.sq_arena.proofs.Pieces.{last_place, IsSpareList-kept, ring_middle}
use Rattle.sq_arena.proofs.Relinks.{filled_pieces, spliced}
use Rattle.sq_arena.proofs.ArenaReads.{IsPlace-map, last_place-IsPlace}
use Rattle.sq_arena.proofs.ArenaLemmas.{Shows, Shows-linked}
use Rattle.sq_arena.proofs.Positions.{length-at_positions, at_positions-push}
use Rattle.sq_arena.specs.Entries.{at_positions}

-- where as many are there as there are slots, each slot has one
pub each_some : {X : Type 0} (xs : List (Option X)) (k : ℕ) → length xs ≤ count_by is_some xs → k < length xs → IsSome (slice_index_or xs k None)
each_some [] k all inside = absurd (omega (arith, inside))
each_some {X} (None ∷ xs) k all inside = absurd (omega (arith, all, sum_by-cons {X = Option X} (λ y. cond (is_some y) 1 0) None xs, count_by-le-length {X = Option X} is_some xs))
each_some (Some x ∷ xs) zero all inside = refl
each_some {X} (Some x ∷ xs) (suc k) all inside = each_some xs k (omega (arith, all, sum_by-cons {X = Option X} (λ y. cond (is_some y) 1 0) (Some x) xs)) (omega (arith, inside))

pub fewer_keys : (k j n : ℕ) → k < j → times (Some k) (map Some (keys_from j n)) ≡ 0
fewer_keys k j zero less = refl
fewer_keys k j (suc n) less =
    let first : once (Some k) (Some j) ≡ 0 = once_other (Some k) (Some j) (λ same. let e : k ≡ j = cc in omega (arith, less, e)) in
    omega (arith, first, fewer_keys k (j + 1) n (omega (arith, less)))

pub keys_once : (p : Option ℕ) (j n : ℕ) → once p None + times p (map Some (keys_from j n)) ≤ 1
keys_once None j zero = omega arith
keys_once None j (suc n) = let rest = keys_once None (j + 1) n in omega (arith, rest)
keys_once (Some k) j zero = omega arith
keys_once (Some k) j (suc n) =
    elim (place_cases (Some k) (Some j)) [
      | inl same ↦ let e : k ≡ j = cc in let here : once (Some k) (Some j) ≤ 1 = at_most k j in let rest = fewer_keys k (j + 1) n (omega (arith, e)) in omega (arith, here, rest)
      | inr differs ↦ let here = once_other (Some k) (Some j) differs in let rest = keys_once (Some k) (j + 1) n in omega (arith, here, rest)
    ]
  where
    at_most : (k j : ℕ) → once (Some k) (Some j) ≤ 1
    at_most k j = elim (place_cases (Some k) (Some j)) [ inl same ↦ omega (arith, ap (λ p. once (Some k) p) (sym same), once_same (Some k)) | inr differs ↦ omega (arith, once_other (Some k) (Some j) differs) ]

module _ {T : Type 0} where
  -- the keys from this one on are to spare, and there are no values
  pub record HasKeys (l : Links T) (count key : ℕ) : Type 0 where
    pub nodes : (k : ℕ) → k < count → HasNode l k
    pub empty : (k : ℕ) → value_at l k ≡ None
    pub first : l.first ≡ None
    pub last : l.last ≡ None
    pub fits : key ≤ count
    pub spare : IsSpareList l l.vacant (keys_from key (count - key))

  pub keys_none : (l : Links T) (count : ℕ) → ((k : ℕ) → k < count → HasNode l k) → ((k : ℕ) → value_at l k ≡ None) → l.first ≡ None → l.last ≡ None → l.vacant ≡ None → HasKeys l count count
  keys_none l count nodes empty first last vacant =
      let none : 0 ≡ count - count = omega arith in
      record { nodes = nodes; empty = empty; first = first; last = last; fits = omega arith; spare = subst (λ n. IsSpareList l l.vacant (keys_from count n)) none vacant }

  next_same : (m : Links T) (v p : Option ℕ) → next_at (record m { vacant = v }) p ≡ next_at m p
  next_same m v None = refl
  next_same m v (Some k) = refl

  pub keys_step : (l m : Links T) (count key : ℕ) → HasKeys l count (key + 1) → SetsNext l m (Some key) l.vacant → HasKeys (record m { vacant = Some key }) count key
  keys_step l m count key has sets =
      let n : Links T = record m { vacant = Some key } in
      let fits = has.fits in
      let more : suc (count - (key + 1)) ≡ count - key = omega (arith, fits) in
      let nodes : (k : ℕ) → HasNode l k → HasNode (record m { vacant = Some key }) k = λ k there. sets.nodes k there in
      let next : (other : Option ℕ) → other ≢ Some key → next_at (record m { vacant = Some key }) other ≡ next_at l other = λ other differs. next_same m (Some key) other ∙ sets.next other differs in
      let rest = IsSpareList-kept l (record m { vacant = Some key }) (Some key) next nodes l.vacant (keys_from (key + 1) (count - (key + 1))) (fewer_keys key (key + 1) (count - (key + 1)) (omega arith)) has.spare in
      record {
        nodes = λ k inside. sets.nodes k (has.nodes k inside);
        empty = λ k. sets.values k ∙ has.empty k;
        first = sets.next None (λ same. absurd (cc)) ∙ has.first;
        last = sets.previous None ∙ has.last;
        fits = omega (arith, fits);
        spare = subst (λ c. IsSpareList (record m { vacant = Some key }) (Some key) (keys_from key c)) more (refl, sets.nodes key (has.nodes key (omega (arith, fits))), subst (λ p. IsSpareList (record m { vacant = Some key }) p (keys_from (key + 1) (count - (key + 1)))) (sym sets.set) rest);
      }

  -- all keys are to spare
  pub keys_linked : (l : Links T) (count : ℕ) → HasKeys l count 0 → IsLinked l [] (keys_from 0 count)
  keys_linked l count has =
      let all : count - 0 ≡ count = omega arith in
      record {
        values = tt;
        others = λ k absent. has.empty k;
        path = ((has.first, has.last), tt);
        spare = subst (λ n. IsSpareList l l.vacant (keys_from 0 n)) all has.spare;
        distinct = λ p. omega (arith, keys_once p 0 count);
      }

  -- one more value stands at the end, under the first key to spare
  pub append_place : (l mid : Links T) (front : List (ℕ × T)) (ss : List ℕ) (key : ℕ) (value : T) (last : Option ℕ) → IsLinked l front ss → Fills l mid key value → last ≡ previous_at mid None → (last ≡ last_place front) × (IsPlace mid last × IsPlace mid (next_at mid last))
  append_place l mid front ss key value last linked fills is =
      let whole : IsLinked l (front ++ []) ss = rw (append-nil front) linked in
      let joined = ring_middle l front [] whole.path in
      let at : last ≡ last_place front = is ∙ fills.previous None ∙ joined.1 in
      let behind : next_at mid last ≡ None = ap (next_at mid) at ∙ fills.next (last_place front) ∙ joined.0 in
      (at, (rw at (IsPlace-map l mid fills.nodes (last_place front) (last_place-IsPlace l front linked.values)), rw behind tt))

  pub append_linked : (l mid m : Links T) (front : List (ℕ × T)) (ss : List ℕ) (k key : ℕ) (value : T) (last : Option ℕ) → IsLinked l front (k ∷ ss) → Fills l mid key value → last ≡ previous_at mid None → Splices mid m last key key → IsLinked m (front ++ (k, value) ∷ []) ss
  append_linked l mid m front ss k key value last linked fills is splices =
      let both : Some key ≡ Some k = sym fills.was_vacant ∙ linked.spare.0 in
      let same : key ≡ k = cc in
      let place = append_place l mid front (k ∷ ss) key value last linked fills is in
      let whole : IsLinked l (front ++ []) (key ∷ ss) = rw (append-nil front, same) linked in
      let pieces = filled_pieces l mid front [] key value ss whole fills in
      let joined = ring_middle l front [] whole.path in
      let at : Splices mid m (last_place front) key key = subst (λ p. Splices mid m p key key) place.0 splices in
      let behind : next_at mid (last_place front) ≡ None = fills.next (last_place front) ∙ joined.0 in
      let second : Joins at.between m (Some key) None = rw behind at at.back in
      subst (λ n. IsLinked m (front ++ (n, value) ∷ []) ss) same (spliced mid at.between m front (key, value) [] [] ss pieces at.front second)

  -- the first values stand under their positions, and the keys from there on are to spare
  abbrev pub FirstLinked : Links T → List T → ℕ → Type 0
  FirstLinked l xs i = IsLinked l (at_positions 0 (take i xs)) (keys_from i (length xs - i))

  spare_more : (l : Links T) (xs : List T) (i : ℕ) → i < length xs → FirstLinked l xs i → IsLinked l (at_positions 0 (take i xs)) (i ∷ keys_from (i + 1) (length xs - (i + 1)))
  spare_more l xs i inside first =
      let n : length xs - i ≡ suc (length xs - (i + 1)) = omega (arith, inside) in
      subst (λ n. IsLinked l (at_positions 0 (take i xs)) (keys_from i n)) n first

  pub first_vacant : (l : Links T) (xs : List T) (i : ℕ) → i < length xs → FirstLinked l xs i → IsSome l.vacant × IsPlace l l.vacant
  first_vacant l xs i inside first = let spare = (spare_more l xs i inside first).spare in (ap is_some spare.0, rw spare.0 spare.1)

  pub first_step : (l mid m : Links T) (xs : List T) (i key : ℕ) (value : T) (last : Option ℕ) → i < length xs → value ≡ get_or xs i value → FirstLinked l xs i → Fills l mid key value → last ≡ previous_at mid None → Splices mid m last key key → FirstLinked m xs (i + 1)
  first_step l mid m xs i key value last inside read first fills is splices =
      let next : take (i + 1) xs ≡ take i xs ++ value ∷ [] = take_more xs i value inside ∙ ap (λ y. take i xs ++ y ∷ []) (sym read) in
      let place : 0 + length (take i xs) ≡ i = omega (arith, length-take-le i xs (omega (arith, inside))) in
      let more : at_positions 0 (take i xs) ++ (i, value) ∷ [] ≡ at_positions 0 (take (i + 1) xs) =
      ap (λ n. at_positions 0 (take i xs) ++ (n, value) ∷ []) (sym place) ∙ sym (at_positions-push 0 (take i xs) value) ∙ ap (at_positions 0) (sym next) in
      subst (λ es. IsLinked m es (keys_from (i + 1) (length xs - (i + 1)))) more
      (append_linked l mid m (at_positions 0 (take i xs)) (keys_from (i + 1) (length xs - (i + 1))) i key value last (spare_more l xs i inside first) fills is splices)

  pub all_shows : (l : Links T) (xs : List T) (i : ℕ) → length xs ≤ i → i ≤ length xs → length xs < 2 ^ 32 → FirstLinked l xs i → Shows l (length xs) 0 (at_positions 0 xs)
  all_shows l xs i enough most fits first =
      let none : length xs - i ≡ 0 = omega (arith, enough) in
      let one : IsLinked l (at_positions 0 (take i xs)) [] = subst (λ n. IsLinked l (at_positions 0 (take i xs)) (keys_from i n)) none first in
      let all : IsLinked l (at_positions 0 xs) [] = subst (λ ys. IsLinked l (at_positions 0 ys) []) (take_all i xs enough) one in
      Shows-linked l (length xs) 0 (at_positions 0 xs) [] all (length-at_positions 0 xs) refl (omega (arith, fits))
