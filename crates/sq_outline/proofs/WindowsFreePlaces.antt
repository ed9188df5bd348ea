-- The places where a window stands and none of its items was taken.
use Rattle.std.proofs.Common.{◌≡◌, ℕ, suc, ◌+◌, ◌*◌, ◌≤◌, Bool, true, List, [], ◌∷◌, map, drop, length, Contains, None, Some, Option, inl, inr, refl, sym, ap, ◌∙◌, subst, arith}
use Rattle.std.specs.List.{All, filter}
use Rattle.std.proofs.lemmas.Bool.{cases_Bool}
use Rattle.std.proofs.lemmas.List.{length-map, length-take, length-drop}
use Rattle.std.proofs.lemmas.List.Elements.{All-nil, All-cons, All-head, All-tail, All-append, All-weaker}
use Rattle.sq_graph.specs.declared.item.Item.{Item}
use Rattle.sq_graph.specs.declared.calls.ItemFate.{ItemFate}
use Rattle.sq_graph.specs.Graph.{Graph}
use Rattle.sq_graph.specs.Blocks.{HasBlock, items_of, items_of_blocks}
use Rattle.sq_graph.specs.Calls.{with_calls}
use Rattle.sq_graph.specs.Parts.{names_of}
use Rattle.sq_graph.specs.Rules.{IsGraph}
use Rattle.sq_graph.proofs.CallWrites.{met_blocks_fewer}
use Rattle.sq_finger.specs.declared.places.WindowAt.{WindowAt}
use Rattle.sq_finger.proofs.Layouts.{names_are}
use Rattle.sq_outline.specs.declared.sites.Site.{Site}
use Rattle.sq_outline.specs.Links.{IsLink}
use Rattle.sq_outline.specs.Made.{ArePlain}
use Rattle.sq_outline.specs.WindowsMade.{items_at, IsWhole, behind}
use Rattle.sq_outline.specs.WindowsPlaces.{places_from, in_block, occurrences}
use Rattle.sq_outline.specs.WindowsSearch.{place_in, standing_among, standing, overlaps, thinned, IsThere, IsFoundAt}
use Rattle.sq_outline.specs.WindowsTaken.{AreTaken, IsFreeSite, MayBeMadeOf, site_then, is_free_place}
use Rattle.sq_outline.proofs.WindowsApart.{all_mapped, Stands, places_stand}
use Rattle.sq_outline.proofs.WindowsFew.{occurrences_few}
use Rattle.sq_outline.proofs.WindowsFinding.{long_at}
use Rattle.sq_outline.proofs.WindowsFree.{all_kept, occurrences_free}

all_filtered : {X : Type 0} (f : X → Bool) (xs : List X) → All (λ x. f x ≡ true) (filter f xs)
all_filtered f [] = All-nil (λ x. f x ≡ true)
all_filtered f (x ∷ xs) =
    elim (cases_Bool (f x)) [ inl keeps ↦ rw keeps (All-cons (λ y. f y ≡ true) x (filter f xs) keeps (all_filtered f xs)) | inr goes ↦ rw goes (all_filtered f xs) ]

thinned_all : (P : Site → Type 0) (n : ℕ) (last : Option Site) (places : List WindowAt) → All (λ place. P (in_block place.block place.at)) places → All P (thinned n last places)
thinned_all P n last [] all = All-nil P
thinned_all P n last (place ∷ places) all =
    let rest = All-tail (λ (p : WindowAt). P (in_block p.block p.at)) place places all in
    elim (cases_Bool (overlaps n last place)) [
      | inl over ↦ rw over (thinned_all P n last places rest)
      | inr apart ↦
          rw apart
          (All-cons P (in_block place.block place.at) (thinned n (Some (in_block place.block place.at)) places) (All-head (λ (p : WindowAt). P (in_block p.block p.at)) place places all)
          (thinned_all P n (Some (in_block place.block place.at)) places rest))
    ]

-- STANDING

module _ (g : Graph) (w : List Item) where
  -- the window is there
  pub record StandsThere (place : WindowAt) : Type 0 where
    pub there : HasBlock g place.block
    pub within : place.at + length w ≤ length (items_of g place.block)
    pub same : items_at g place.block place.at (length w) ≡ w

  stands : (block at : ℕ) → HasBlock g block → Stands w (items_of g block) at → StandsThere (place_in block at)
  stands block at there s = record {
    there = there;
    within = omega (arith, s.0, ap (λ (is : List Item). length is) s.1, length-take (length w) (drop at (items_of g block)), length-drop at (items_of g block));
    same = s.1;
  }

  among_there : (names : List ℕ) → ((name : ℕ) → Contains names name → HasBlock g name) → All StandsThere (standing_among g w names)
  among_there [] has = All-nil StandsThere
  among_there (block ∷ names) has =
      All-append StandsThere (map (place_in block) (places_from w 0 (items_of g block))) (standing_among g w names)
      (all_mapped StandsThere (place_in block) (places_from w 0 (items_of g block))
      (All-weaker (Stands w (items_of g block)) (λ at. StandsThere (place_in block at)) (λ at s. stands block at (has block (0, omega arith, refl)) s) (places_from w 0 (items_of g block)) (places_stand w (items_of g block) 0 (items_of g block) refl (omega arith))))
      (among_there names (λ name listed. has name (let k = listed.0 in (suc listed.0, omega (arith, listed.1), listed.2))))

  pub all_there : All StandsThere (standing g w)
  all_there = among_there (names_of g) (λ name listed. (names_are g name).0 listed)

-- the n items at a place of a block, where none was taken
module _ (g : Graph) (fates : List ItemFate) (taken : AreTaken g fates) (rules : IsGraph g) (block at n : ℕ) (within : at + n ≤ length (items_of g block)) (places : List WindowAt) (are : places ≡ filter (is_free_place g fates n) (standing g (items_at g block at n))) where
  abbrev window : List Item
  window = items_at g block at n

  long : length (items_at g block at n) ≡ n
  long = long_at g block at n within

  -- n equal items are there
  record IsSame (site : Site) : Type 0 where
    there : HasBlock g site.block
    fits : site.at + n ≤ length (items_of g site.block)
    same : items_at g site.block site.at n ≡ items_at g block at n

  of_stands : (place : WindowAt) → StandsThere g (items_at g block at n) place → IsSame (in_block place.block place.at)
  of_stands place s = record {
    there = s.there;
    fits = subst (λ m. place.at + m ≤ length (items_of g place.block)) long s.within;
    same = subst (λ m. items_at g place.block place.at m ≡ items_at g block at n) long s.same;
  }

  all_same : All IsSame (thinned n None places)
  all_same =
      subst (λ (ps : List WindowAt). All IsSame (thinned n None ps)) (sym are)
      (thinned_all IsSame n None (filter (is_free_place g fates n) (standing g (items_at g block at n)))
      (all_kept (λ (p : WindowAt). IsSame (in_block p.block p.at)) (is_free_place g fates n) (standing g (items_at g block at n))
      (All-weaker (StandsThere g (items_at g block at n)) (λ (p : WindowAt). IsSame (in_block p.block p.at)) of_stands (standing g (items_at g block at n)) (all_there g (items_at g block at n)))))

  pub free_there : All (IsThere g n) (thinned n None places)
  free_there = All-weaker IsSame (IsThere g n) (λ site s. record { there = s.there; within = s.fits }) (thinned n None places) all_same

  all_free : All (IsFreeSite g fates n) (thinned n None places)
  all_free =
      let free : All (λ (site : Site). is_free_place g fates n (place_in site.block site.at) ≡ true) (thinned n None places) =
      subst (λ (ps : List WindowAt). All (λ (site : Site). is_free_place g fates n (place_in site.block site.at) ≡ true) (thinned n None ps)) (sym are)
      (thinned_all (λ (site : Site). is_free_place g fates n (place_in site.block site.at) ≡ true) n None (filter (is_free_place g fates n) (standing g (items_at g block at n))) (all_filtered (is_free_place g fates n) (standing g (items_at g block at n)))) in
      λ site d listed. let s = all_same site d listed in record { there = s.there; within = s.fits; free = free site d listed }

  -- they are as many as the window's occurrences in the graph with the calls
  pub free_few : 1 ≤ n → ArePlain (items_at g block at n) → IsGraph (with_calls fates g) → length (thinned n None places) * n ≤ length (items_of_blocks g.blocks)
  free_few some plain still =
      let sites : occurrences (with_calls fates g) (items_at g block at n) ≡ map (site_then g fates) (thinned n None places) =
      occurrences_free g fates taken (items_at g block at n) plain.no_calls (omega (arith, long, some)) rules
      ∙ ap (λ m. map (site_then g fates) (thinned m None (filter (is_free_place g fates m) (standing g (items_at g block at n))))) long
      ∙ ap (λ (ps : List WindowAt). map (site_then g fates) (thinned n None ps)) (sym are) in
      let many : length (occurrences (with_calls fates g) (items_at g block at n)) ≡ length (thinned n None places) = ap (λ (ss : List Site). length ss) sites ∙ length-map (thinned n None places) (site_then g fates) in
      let few : length (thinned n None places) * n ≤ length (items_of_blocks (with_calls fates g).blocks) =
      subst (λ m. length (thinned n None places) * m ≤ length (items_of_blocks (with_calls fates g).blocks)) long
      (subst (λ k. k * length (items_at g block at n) ≤ length (items_of_blocks (with_calls fates g).blocks)) many (occurrences_few (with_calls fates g) (items_at g block at n) still)) in
      omega (arith, few, met_blocks_fewer fates g.blocks)

  pub free_made : (first : Site) (link saving : ℕ) (sites : List Site) → 3 ≤ n → n ≤ 16 → IsFoundAt g n places first link saving sites → MayBeMadeOf g fates first.block first.at n link saving sites
  free_made first link saving sites least most found =
      let s = All-head IsSame first found.others (subst (All IsSame) (sym found.sites_are ∙ found.first_is) all_same) in
      let long_there : length (items_at g first.block first.at n) ≡ n = long_at g first.block first.at n s.fits in
      record {
        least = least;
        most = most;
        sites_are = found.sites_are ∙ ap (λ (ps : List WindowAt). thinned n None ps) are ∙ ap (λ (is : List Item). thinned n None (filter (is_free_place g fates n) (standing g is))) (sym s.same);
        free = subst (All (IsFreeSite g fates n)) (sym found.sites_are) all_free;
        plain = found.made.plain;
        others = found.others;
        first = found.first_is;
        part = subst (λ m. ¬ All (IsWhole g m) sites) long_there found.made.part;
        linked = subst (λ m. IsLink g (items_at g first.block first.at n) (behind m sites) link) long_there found.made.linked;
        saves = found.saves;
        some = found.some;
      }
