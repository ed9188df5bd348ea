-- The occurrences of a window once items were taken for calls: those of the places where none of its items was.
use Rattle.std.proofs.Common.{◌≡◌, ◌≢◌, ℕ, nat_eq, ◌≤◌, Bool, false, List, [], ◌∷◌, ◌++◌, map, length, None, inl, inr, refl, sym, ap, ◌∙◌, arith}
use Rattle.std.specs.List.{All, IsDistinct, filter}
use Rattle.std.proofs.lemmas.Bool.{cases_Bool}
use Rattle.std.proofs.lemmas.List.{map-append}
use Rattle.std.proofs.lemmas.List.Elements.{All-nil, All-cons, All-head, All-tail, All-from_recursion}
use Rattle.std.proofs.lemmas.Map.Keys.{IsDistinct-head, IsDistinct-tail}
use Rattle.sq_graph.specs.declared.item.Item.{Item}
use Rattle.sq_graph.specs.declared.calls.ItemFate.{ItemFate}
use Rattle.sq_graph.specs.Graph.{Graph}
use Rattle.sq_graph.specs.Blocks.{items_of, items_of_blocks}
use Rattle.sq_graph.specs.Calls.{with_calls, now_at, are_free, fates_of}
use Rattle.sq_graph.specs.Parts.{names_of}
use Rattle.sq_graph.specs.Rules.{IsGraph}
use Rattle.sq_graph.proofs.CallWrites.{met_names}
use Rattle.sq_graph.proofs.Spans.{items_then, fates_of_long}
use Rattle.sq_finger.specs.declared.places.WindowAt.{WindowAt}
use Rattle.sq_outline.specs.WindowsPlaces.{places_from, apart_from, occurrences_in, in_block, occurrences_among, occurrences}
use Rattle.sq_outline.specs.WindowsSearch.{place_in, standing_among, standing, thinned}
use Rattle.sq_outline.specs.WindowsTaken.{AreTaken, site_then, is_free_place}
use Rattle.sq_outline.proofs.Choosing.{names_distinct}
use Rattle.sq_outline.proofs.Plainness.{NoCalls}
use Rattle.sq_outline.proofs.WindowsSpans.{occurrences_then}
use Rattle.sq_outline.proofs.WindowsThin.{one_block, standing_elsewhere}

filtered_append : {X : Type 0} (f : X → Bool) (xs ys : List X) → filter f (xs ++ ys) ≡ filter f xs ++ filter f ys
filtered_append f [] ys = refl
filtered_append f (x ∷ xs) ys = elim (cases_Bool (f x)) [ inl keeps ↦ rw keeps (ap (λ zs. x ∷ zs) (filtered_append f xs ys)) | inr goes ↦ rw goes (filtered_append f xs ys) ]

filtered_mapped : {X Y : Type 0} (f : Y → Bool) (h : X → Y) (xs : List X) → filter f (map h xs) ≡ map h (filter (λ x. f (h x)) xs)
filtered_mapped f h [] = refl
filtered_mapped f h (x ∷ xs) = elim (cases_Bool (f (h x))) [ inl keeps ↦ rw keeps (ap (λ zs. h x ∷ zs) (filtered_mapped f h xs)) | inr goes ↦ rw goes (filtered_mapped f h xs) ]

pub all_kept : {X : Type 0} (P : X → Type 0) (f : X → Bool) (xs : List X) → All P xs → All P (filter f xs)
all_kept P f [] all = All-nil P
all_kept P f (x ∷ xs) all =
    let rest = all_kept P f xs (All-tail P x xs all) in
    elim (cases_Bool (f x)) [ inl keeps ↦ rw keeps (All-cons P x (filter f xs) (All-head P x xs all) rest) | inr goes ↦ rw goes rest ]

module _ (g : Graph) (fates : List ItemFate) (taken : AreTaken g fates) (w : List Item) (none : NoCalls w) (some : 1 ≤ length w) where
  abbrev n : ℕ
  n = length w

  abbrev is_free : WindowAt → Bool
  is_free place = is_free_place g fates (length w) place

  many : length (items_of_blocks g.blocks) ≤ length fates
  many = omega (arith, taken.many)

  -- those of a block that don't overlap the one before
  abbrev own : ℕ → List ℕ
  own block = apart_from (length w) 0 (filter (are_free (length w) (fates_of g fates block)) (places_from w 0 (items_of g block)))

  moved_sites : (block : ℕ) (ps : List ℕ) → map (in_block block) (map (now_at (fates_of g fates block)) ps) ≡ map (site_then g fates) (map (in_block block) ps)
  moved_sites block [] = refl
  moved_sites block (p ∷ ps) = ap (λ ss. in_block block (now_at (fates_of g fates block) p) ∷ ss) (moved_sites block ps)

  in_own_block : (block : ℕ) → map (in_block block) (occurrences_in w (items_of (with_calls fates g) block)) ≡ map (site_then g fates) (map (in_block block) (own block))
  in_own_block block =
      ap (λ is. map (in_block block) (occurrences_in w is)) (items_then g fates many block)
      ∙ ap (map (in_block block)) (occurrences_then w none some (fates_of g fates block) (items_of g block) (fates_of_long g fates many block) (taken.spans block))
      ∙ moved_sites block (own block)

  among : (names : List ℕ) → IsDistinct nat_eq names → occurrences_among (with_calls fates g) w names ≡ map (site_then g fates) (thinned (length w) None (filter (is_free_place g fates (length w)) (standing_among g w names)))
  among [] distinct = refl
  among (block ∷ names) distinct =
      let unlike : All (λ other. nat_eq block other ≡ false) names = All-from_recursion (λ other. nat_eq block other ≡ false) names (IsDistinct-head nat_eq block names distinct) in
      let rest = filter (is_free_place g fates (length w)) (standing_among g w names) in
      let away : All (λ (p : WindowAt). p.block ≢ block) (filter (is_free_place g fates (length w)) (standing_among g w names)) =
      all_kept (λ (p : WindowAt). p.block ≢ block) (is_free_place g fates (length w)) (standing_among g w names) (standing_elsewhere g w block names unlike) in
      let parts : filter (is_free_place g fates (length w)) (standing_among g w (block ∷ names)) ≡ map (place_in block) (filter (are_free (length w) (fates_of g fates block)) (places_from w 0 (items_of g block))) ++ filter (is_free_place g fates (length w)) (standing_among g w names) =
      filtered_append (is_free_place g fates (length w)) (map (place_in block) (places_from w 0 (items_of g block))) (standing_among g w names)
      ∙ ap (λ ps. ps ++ filter (is_free_place g fates (length w)) (standing_among g w names)) (filtered_mapped (is_free_place g fates (length w)) (place_in block) (places_from w 0 (items_of g block))) in
      let thin : thinned (length w) None (filter (is_free_place g fates (length w)) (standing_among g w (block ∷ names))) ≡ map (in_block block) (own block) ++ thinned (length w) None (filter (is_free_place g fates (length w)) (standing_among g w names)) =
      ap (thinned (length w) None) parts ∙ one_block (length w) block rest away (filter (are_free (length w) (fates_of g fates block)) (places_from w 0 (items_of g block))) in
      ap (λ ss. ss ++ occurrences_among (with_calls fates g) w names) (in_own_block block)
      ∙ ap (λ ss. map (site_then g fates) (map (in_block block) (own block)) ++ ss) (among names (IsDistinct-tail nat_eq block names distinct))
      ∙ sym (map-append (site_then g fates) (map (in_block block) (own block)) (thinned (length w) None (filter (is_free_place g fates (length w)) (standing_among g w names))))
      ∙ ap (map (site_then g fates)) (sym thin)

  pub occurrences_free : IsGraph g → occurrences (with_calls fates g) w ≡ map (site_then g fates) (thinned (length w) None (filter (is_free_place g fates (length w)) (standing g w)))
  occurrences_free rules =
      ap (occurrences_among (with_calls fates g) w) (met_names fates g.blocks)
      ∙ among (names_of g) (names_distinct g rules)
