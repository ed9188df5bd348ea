-- Occurrences of a window: they don't overlap, and the window stands at each.
use Rattle.std.proofs.Common.{◌≡◌, ◌≢◌, ℕ, zero, suc, nat_eq, false, ◌+◌, ◌≤◌, List, [], ◌∷◌, ◌++◌, map, reverse, take, drop, length, inl, inr, refl, sym, ap, ◌∙◌, subst, arith, length-append, add-one}
use Rattle.std.specs.List.{All, Contains, IsDistinct}
use Rattle.std.proofs.lemmas.Bool.{cases_Bool, cases_lt, lt-ltb, le-ltb, eqb-false}
use Rattle.std.proofs.lemmas.List.{length-map, length-reverse, reverse-append, map-append}
use Rattle.std.proofs.lemmas.List.Elements.{All-nil, All-cons, All-head, All-tail, All-append, All-weaker, All-push, All-from_recursion}
use Rattle.std.proofs.lemmas.Map.Keys.{IsDistinct-head, IsDistinct-tail}
use Rattle.sq_graph.specs.declared.item.Item.{Item}
use Rattle.sq_graph.specs.Graph.{Graph}
use Rattle.sq_graph.specs.Blocks.{items_of}
use Rattle.sq_outline.specs.declared.sites.Site.{Site}
use Rattle.sq_outline.specs.Sites.{EndsBefore, AreApart}
use Rattle.sq_outline.specs.WindowsPlaces.{StandAt, begins, places_from, apart_from, occurrences_in, in_block, occurrences_among, calls_among}
use Rattle.sq_outline.proofs.WindowsStanding.{begins_is, stands_from}

-- LISTS

pub all_front : {X : Type 0} (P : X → Type 0) (xs ys : List X) → All P (xs ++ ys) → All P xs
all_front P [] ys all = All-nil P
all_front P (x ∷ xs) ys all = All-cons P x xs (All-head P x (xs ++ ys) all) (all_front P xs ys (All-tail P x (xs ++ ys) all))

pub all_back : {X : Type 0} (P : X → Type 0) (xs ys : List X) → All P (xs ++ ys) → All P ys
all_back P [] ys all = all
all_back P (x ∷ xs) ys all = all_back P xs ys (All-tail P x (xs ++ ys) all)

pub reversed_cons : {X : Type 0} (x : X) (xs : List X) → reverse (x ∷ xs) ≡ reverse xs ++ x ∷ []
reversed_cons x xs = reverse-append (x ∷ []) xs

pub all_reversed : {X : Type 0} (P : X → Type 0) (xs : List X) → All P xs → All P (reverse xs)
all_reversed P [] all = all
all_reversed {X} P (x ∷ xs) all =
    subst (λ (ys : List X). All P ys) (sym (reversed_cons x xs)) (All-push P (reverse xs) x (all_reversed P xs (All-tail P x xs all)) (All-head P x xs all))

-- of mapped elements
pub all_mapped : {X Y : Type 0} (P : Y → Type 0) (f : X → Y) (xs : List X) → All (λ x. P (f x)) xs → All P (map f xs)
all_mapped P f [] all = All-nil P
all_mapped P f (x ∷ xs) all = All-cons P (f x) (map f xs) (All-head (λ y. P (f y)) x xs all) (all_mapped P f xs (All-tail (λ y. P (f y)) x xs all))

pub all_unmapped : {X Y : Type 0} (P : Y → Type 0) (f : X → Y) (xs : List X) → All P (map f xs) → All (λ x. P (f x)) xs
all_unmapped P f [] all = All-nil (λ x. P (f x))
all_unmapped P f (x ∷ xs) all = All-cons (λ y. P (f y)) x xs (All-head P (f x) (map f xs) all) (all_unmapped P f xs (All-tail P (f x) (map f xs) all))

-- what holds of all numbers
pub each_all : {P : ℕ → Type 0} (places : List ℕ) → ((at : ℕ) → P at) → All P places
each_all {P} [] h = All-nil P
each_all {P} (at ∷ places) h = All-cons P at places (h at) (each_all places h)

-- PLACES IN A BLOCK

-- each of them ends where the next begins, or before
abbrev pub Spaced : ℕ → List ℕ → Type 0
Spaced n [] = Unit {0}
Spaced n (at ∷ places) = All (λ other. at + n ≤ other) places × Spaced n places

pub from_end : (n end : ℕ) (places : List ℕ) → All (λ at. end ≤ at) (apart_from n end places)
from_end n end [] = All-nil (λ at. end ≤ at)
from_end n end (at ∷ places) =
    elim (cases_lt at end) [
      | inl l ↦ rw (lt-ltb at end l) (from_end n end places)
      | inr l ↦
          rw (le-ltb at end l)
          (All-cons (λ k. end ≤ k) at (apart_from n (at + n) places) l
          (All-weaker (λ k. at + n ≤ k) (λ k. end ≤ k) (λ k m. omega (arith, l, m)) (apart_from n (at + n) places) (from_end n (at + n) places)))
    ]

pub spaced : (n end : ℕ) (places : List ℕ) → Spaced n (apart_from n end places)
spaced n end [] = tt
spaced n end (at ∷ places) =
    elim (cases_lt at end) [
      | inl l ↦ rw (lt-ltb at end l) (spaced n end places)
      | inr l ↦ rw (le-ltb at end l) (from_end n (at + n) places, spaced n (at + n) places)
    ]

-- what holds of all places holds of those
pub still_all : (P : ℕ → Type 0) (n end : ℕ) (places : List ℕ) → All P places → All P (apart_from n end places)
still_all P n end [] all = all
still_all P n end (at ∷ places) all =
    elim (cases_lt at end) [
      | inl l ↦ rw (lt-ltb at end l) (still_all P n end places (All-tail P at places all))
      | inr l ↦ rw (le-ltb at end l) (All-cons P at (apart_from n (at + n) places) (All-head P at places all) (still_all P n (at + n) places (All-tail P at places all)))
    ]

-- the window stands at each
module _ (window : List Item) (all : List Item) where
  abbrev pub Stands : ℕ → Type 0
  Stands at = (at ≤ length all) × (take (length window) (drop at all) ≡ window)

  pub places_stand : (at : ℕ) (items : List Item) → drop at all ≡ items → at + length items ≡ length all → All Stands (places_from window at items)
  places_stand at [] is long = All-nil Stands
  places_stand at (item ∷ items) is long =
      let next : drop (at + 1) all ≡ items = rw add-one (dropped_next at all item items is) in
      let rest = places_stand (at + 1) items next (omega (arith, long)) in
      elim (cases_Bool (begins window (item ∷ items))) [
        | inl here ↦
            rw here
            (All-cons Stands at (places_from window (at + 1) items) (omega (arith, long), ap (λ (js : List Item). take (length window) js) is ∙ (begins_is window (item ∷ items)).0 here) rest)
        | inr none ↦ rw none rest
      ]
    where
      dropped_next : (k : ℕ) (xs : List Item) (x : Item) (ys : List Item) → drop k xs ≡ x ∷ ys → drop (suc k) xs ≡ ys
      dropped_next zero [] x ys e = absurd (cc)
      dropped_next zero (z ∷ xs) x ys e = let t : xs ≡ ys = cc in t
      dropped_next (suc k) [] x ys e = absurd (cc)
      dropped_next (suc k) (z ∷ xs) x ys e = dropped_next k xs x ys e

-- SITES

-- one more on the left
apart_left : (n : ℕ) (sites : List Site) (site : Site) → AreApart n sites → All (λ other. EndsBefore n site other) sites → AreApart n (sites ++ site ∷ [])
apart_left n [] site apart before = (All-nil (λ other. EndsBefore n other site), tt)
apart_left n (first ∷ sites) site apart before = (
  All-push (λ other. EndsBefore n other first) sites site apart.0 (All-head (λ other. EndsBefore n site other) first sites before),
  apart_left n sites site apart.1 (All-tail (λ other. EndsBefore n site other) first sites before),
)

pub block_apart : (n block : ℕ) (places : List ℕ) → Spaced n places → AreApart n (map (in_block block) (reverse places))
block_apart n block [] spaced = tt
block_apart n block (at ∷ places) spaced =
    let site : Site = in_block block at in
    let before : All (λ other. EndsBefore n (in_block block at) other) (map (in_block block) (reverse places)) =
    all_mapped {Y = Site} (λ other. EndsBefore n (in_block block at) other) (in_block block) (reverse places)
    (all_reversed (λ k. EndsBefore n (in_block block at) (in_block block k)) places (All-weaker (λ k. at + n ≤ k) (λ k. EndsBefore n (in_block block at) (in_block block k)) (λ k l same. l) places spaced.0)) in
    subst (λ (ps : List ℕ). AreApart n (map (in_block block) ps)) (sym (reversed_cons at places))
    (subst (λ (ss : List Site). AreApart n ss) (sym (map-append (in_block block) (reverse places) (at ∷ []))) (apart_left n (map (in_block block) (reverse places)) site (block_apart n block places spaced.1) before))

-- of different blocks
pub apart_append : (n : ℕ) (xs ys : List Site) → AreApart n xs → AreApart n ys → All (λ x. All (λ y. EndsBefore n y x) ys) xs → AreApart n (xs ++ ys)
apart_append n [] ys a b cross = b
apart_append n (x ∷ xs) ys a b cross = (
  All-append (λ other. EndsBefore n other x) xs ys a.0 (All-head (λ z. All (λ y. EndsBefore n y z) ys) x xs cross),
  apart_append n xs ys a.1 b (All-tail (λ z. All (λ y. EndsBefore n y z) ys) x xs cross),
)

module _ (g : Graph) (window : List Item) where
  abbrev found : ℕ → List ℕ
  found block = occurrences_in window (items_of g block)

  -- what holds of the occurrences holds of the calls
  pub calls_all : (P : Site → Type 0) (names : List ℕ) → All P (occurrences_among g window names) → All P (calls_among g window names)
  calls_all P [] all = all
  calls_all P (block ∷ names) all =
      let own = all_unmapped P (in_block block) (found block) (all_front P (map (in_block block) (found block)) (occurrences_among g window names) all) in
      All-append P (map (in_block block) (reverse (found block))) (calls_among g window names)
      (all_mapped P (in_block block) (reverse (found block)) (all_reversed (λ at. P (in_block block at)) (found block) own))
      (calls_all P names (all_back P (map (in_block block) (found block)) (occurrences_among g window names) all))

  pub as_many : (names : List ℕ) → length (calls_among g window names) ≡ length (occurrences_among g window names)
  as_many [] = refl
  as_many (block ∷ names) =
      omega (
        arith,
        as_many names,
        length-append (map (in_block block) (reverse (found block))) (calls_among g window names),
        length-append (map (in_block block) (found block)) (occurrences_among g window names),
        length-map (reverse (found block)) (in_block block),
        length-map (found block) (in_block block),
        length-reverse (found block),
      )

  -- of what holds in each of the blocks
  pub blocks_all : (P : Site → Type 0) (names : List ℕ) → All (λ block. All (λ at. P (in_block block at)) (found block)) names → All P (occurrences_among g window names)
  blocks_all P [] all = All-nil P
  blocks_all P (block ∷ names) all =
      All-append P (map (in_block block) (found block)) (occurrences_among g window names)
      (all_mapped P (in_block block) (found block) (All-head (λ b. All (λ at. P (in_block b at)) (found b)) block names all))
      (blocks_all P names (All-tail (λ b. All (λ at. P (in_block b at)) (found b)) block names all))

  pub found_stand : (block : ℕ) → All (λ at. StandAt g block at window) (found block)
  found_stand block =
      let items = items_of g block in
      still_all (λ at. StandAt g block at window) (length window) 0 (places_from window 0 (items_of g block))
      (All-weaker (Stands window items) (λ at. StandAt g block at window) (λ at s. stands_from g block at window s.0 s.1) (places_from window 0 items) (places_stand window items 0 items refl (omega arith)))

  pub all_stand : (names : List ℕ) → All (λ site. StandAt g site.block site.at window) (occurrences_among g window names)
  all_stand [] = All-nil (λ site. StandAt g site.block site.at window)
  all_stand (block ∷ names) =
      All-append (λ site. StandAt g site.block site.at window) (map (in_block block) (found block)) (occurrences_among g window names)
      (all_mapped {Y = Site} (λ site. StandAt g site.block site.at window) (in_block block) (found block) (found_stand block))
      (all_stand names)

  -- those of other blocks
  pub elsewhere_all : (block : ℕ) (names : List ℕ) → All (λ other. nat_eq block other ≡ false) names → All (λ site. site.block ≢ block) (occurrences_among g window names)
  elsewhere_all block [] all = All-nil (λ site. site.block ≢ block)
  elsewhere_all block (name ∷ names) all =
      let apart = eqb-false block name (All-head (λ other. nat_eq block other ≡ false) name names all) in
      All-append (λ site. site.block ≢ block) (map (in_block name) (found name)) (occurrences_among g window names)
      (all_mapped {Y = Site} (λ site. site.block ≢ block) (in_block name) (found name) (each_apart name (λ e. apart (sym e)) (found name)))
      (elsewhere_all block names (All-tail (λ other. nat_eq block other ≡ false) name names all))
    where
      each_apart : (name : ℕ) → (name ≢ block) → (places : List ℕ) → All (λ at. name ≢ block) places
      each_apart name apart [] = All-nil (λ at. name ≢ block)
      each_apart name apart (at ∷ places) = All-cons (λ at. name ≢ block) at places apart (each_apart name apart places)

  pub calls_apart : (n : ℕ) (names : List ℕ) → n ≡ length window → IsDistinct nat_eq names → AreApart n (calls_among g window names)
  calls_apart n [] is distinct = tt
  calls_apart n (block ∷ names) is distinct =
      let unlike : All (λ other. nat_eq block other ≡ false) names = All-from_recursion (λ other. nat_eq block other ≡ false) names (IsDistinct-head nat_eq block names distinct) in
      let others = calls_all (λ site. site.block ≢ block) names (elsewhere_all block names unlike) in
      let ys = calls_among g window names in
      let own : AreApart n (map (in_block block) (reverse (found block))) =
      subst (λ m. AreApart m (map (in_block block) (reverse (found block)))) (sym is) (block_apart (length window) block (found block) (spaced (length window) 0 (places_from window 0 (items_of g block)))) in
      apart_append n (map (in_block block) (reverse (found block))) ys own (calls_apart n names is (IsDistinct-tail nat_eq block names distinct))
      (all_mapped {Y = Site} (λ x. All (λ y. EndsBefore n y x) ys) (in_block block) (reverse (found block))
      (each_all {P = λ at. All (λ y. EndsBefore n y (in_block block at)) ys} (reverse (found block)) (λ at. All-weaker {X = Site} (λ site. site.block ≢ block) (λ y. EndsBefore n y (in_block block at)) (λ y apart same. absurd (apart same)) ys others)))

  -- their blocks are among those names
  pub blocks_there : {P : ℕ → Type 0} (names : List ℕ) → ((name : ℕ) → Contains names name → P name) → All (λ site. P site.block) (occurrences_among g window names)
  blocks_there {P} [] h = All-nil (λ (site : Site). P site.block)
  blocks_there {P} (block ∷ names) h =
      All-append (λ (site : Site). P site.block) (map (in_block block) (found block)) (occurrences_among g window names)
      (all_mapped {Y = Site} (λ site. P site.block) (in_block block) (found block) (each_all {P = λ at. P block} (found block) (λ at. h block (0, omega arith, refl))))
      (blocks_there names (λ name listed. h name (let k = listed.0 in (suc listed.0, omega (arith, listed.1), listed.2))))

-- the first of some that are apart
pub apart_front : (n : ℕ) (xs ys : List Site) → AreApart n (xs ++ ys) → AreApart n xs
apart_front n [] ys apart = tt
apart_front n (x ∷ xs) ys apart = (all_front (λ other. EndsBefore n other x) xs ys apart.0, apart_front n xs ys apart.1)
