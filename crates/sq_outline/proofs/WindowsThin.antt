-- Of the places where a window stands those that don't overlap the one before are its occurrences.
use Rattle.std.proofs.Common.{◌≡◌, ◌≢◌, ℕ, nat_eq, ◌==◌, false, ◌+◌, List, [], ◌∷◌, ◌++◌, map, length, None, Some, inl, inr, refl, sym, ap, ◌∙◌, arith, eq-eqb}
use Rattle.std.specs.List.{All, IsDistinct}
use Rattle.std.proofs.lemmas.Bool.{cases_lt, lt-ltb, le-ltb, ne_eqb, eqb-false}
use Rattle.std.proofs.lemmas.List.Elements.{All-nil, All-head, All-tail, All-append, All-from_recursion}
use Rattle.std.proofs.lemmas.Map.Keys.{IsDistinct-head, IsDistinct-tail}
use Rattle.sq_graph.specs.declared.item.Item.{Item}
use Rattle.sq_graph.specs.Graph.{Graph}
use Rattle.sq_graph.specs.Blocks.{items_of}
use Rattle.sq_graph.specs.Parts.{names_of}
use Rattle.sq_graph.specs.Rules.{IsGraph}
use Rattle.sq_finger.specs.declared.places.WindowAt.{WindowAt}
use Rattle.sq_outline.specs.declared.sites.Site.{Site}
use Rattle.sq_outline.specs.WindowsPlaces.{places_from, apart_from, in_block, occurrences_among, occurrences}
use Rattle.sq_outline.specs.WindowsSearch.{place_in, standing_among, standing, thinned}
use Rattle.sq_outline.proofs.Choosing.{names_distinct}
use Rattle.sq_outline.proofs.WindowsApart.{all_mapped, each_all}

-- in another block nothing overlaps
fresh_after : (n : ℕ) (last : Site) (places : List WindowAt) → All (λ p. p.block ≢ last.block) places → thinned n (Some last) places ≡ thinned n None places
fresh_after n last [] all = refl
fresh_after n last (place ∷ places) all =
    let apart : (last.block == place.block) ≡ false = ne_eqb last.block place.block (λ e. All-head (λ p. p.block ≢ last.block) place places all (sym e)) in
    rw apart refl

module _ (n block : ℕ) (rest : List WindowAt) (all : All (λ p. p.block ≢ block) rest) where
  in_one : (a : ℕ) (ps : List ℕ) → thinned n (Some (in_block block a)) (map (place_in block) ps ++ rest) ≡ map (in_block block) (apart_from n (a + n) ps) ++ thinned n None rest
  in_one a [] = fresh_after n (in_block block a) rest all
  in_one a (at ∷ ps) =
      elim (cases_lt at (a + n)) [
        | inl l ↦ rw (eq-eqb block block refl, lt-ltb at (a + n) l) (in_one a ps)
        | inr l ↦ rw (eq-eqb block block refl, le-ltb at (a + n) l) (ap (λ ss. in_block block at ∷ ss) (in_one at ps))
      ]

  pub one_block : (ps : List ℕ) → thinned n None (map (place_in block) ps ++ rest) ≡ map (in_block block) (apart_from n 0 ps) ++ thinned n None rest
  one_block [] = refl
  one_block (at ∷ ps) = rw (le-ltb at 0 (omega arith)) (ap (λ ss. in_block block at ∷ ss) (in_one at ps))

module _ (g : Graph) (window : List Item) where
  pub standing_elsewhere : (block : ℕ) (names : List ℕ) → All (λ other. nat_eq block other ≡ false) names → All (λ p. p.block ≢ block) (standing_among g window names)
  standing_elsewhere block [] all = All-nil (λ (p : WindowAt). p.block ≢ block)
  standing_elsewhere block (name ∷ names) all =
      let apart : name ≢ block = λ e. eqb-false block name (All-head (λ other. nat_eq block other ≡ false) name names all) (sym e) in
      let places = places_from window 0 (items_of g name) in
      All-append (λ (p : WindowAt). p.block ≢ block) (map (place_in name) places) (standing_among g window names)
      (all_mapped {Y = WindowAt} (λ p. p.block ≢ block) (place_in name) places (each_all {P = λ at. name ≢ block} places (λ at. apart)))
      (standing_elsewhere block names (All-tail (λ other. nat_eq block other ≡ false) name names all))

  thinned_among : (names : List ℕ) → IsDistinct nat_eq names → thinned (length window) None (standing_among g window names) ≡ occurrences_among g window names
  thinned_among [] distinct = refl
  thinned_among (block ∷ names) distinct =
      let unlike : All (λ other. nat_eq block other ≡ false) names = All-from_recursion (λ other. nat_eq block other ≡ false) names (IsDistinct-head nat_eq block names distinct) in
      let rest = standing_among g window names in
      one_block (length window) block rest (standing_elsewhere block names unlike) (places_from window 0 (items_of g block))
      ∙ ap (λ ss. map (in_block block) (apart_from (length window) 0 (places_from window 0 (items_of g block))) ++ ss) (thinned_among names (IsDistinct-tail nat_eq block names distinct))

  pub thinned_are : IsGraph g → thinned (length window) None (standing g window) ≡ occurrences g window
  thinned_are rules = thinned_among (names_of g) (names_distinct g rules)
