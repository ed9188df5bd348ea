-- How many occurrences a window has at most: they don't overlap.
use Rattle.std.proofs.Common.{◌≡◌, ℕ, zero, suc, ◌+◌, ◌-◌, ◌*◌, ◌≤◌, List, [], ◌∷◌, map, drop, length, inl, inr, refl, ap, ◌∙◌, arith, length-append}
use Rattle.std.specs.List.{All}
use Rattle.std.proofs.lemmas.Bool.{cases_lt, lt-ltb, le-ltb}
use Rattle.std.proofs.lemmas.List.{length-map, length-take, length-drop}
use Rattle.std.proofs.lemmas.List.Elements.{All-head, All-tail, All-weaker}
use Rattle.sq_graph.specs.declared.item.Item.{Item}
use Rattle.sq_graph.specs.Graph.{Graph}
use Rattle.sq_graph.specs.Blocks.{items_of, items_of_blocks}
use Rattle.sq_graph.specs.Parts.{names_of}
use Rattle.sq_graph.specs.Rules.{IsGraph}
use Rattle.sq_finger.proofs.Layouts.{named_items}
use Rattle.sq_finger.proofs.Placing.{total, total_of_blocks}
use Rattle.sq_outline.specs.WindowsPlaces.{places_from, apart_from, occurrences_in, in_block, occurrences_among, occurrences}
use Rattle.sq_outline.proofs.WindowsApart.{Stands, places_stand}

-- places that don't overlap have so many items
apart_few : (n end long : ℕ) (places : List ℕ) → end ≤ long → All (λ at. at + n ≤ long) places → length (apart_from n end places) * n + end ≤ long
apart_few n end long [] l all = omega (arith, l)
apart_few n end long (at ∷ places) l all =
    let within = All-head (λ k. k + n ≤ long) at places all in
    let rest = All-tail (λ k. k + n ≤ long) at places all in
    elim (cases_lt at end) [
      | inl before ↦ rw (lt-ltb at end before) (apart_few n end long places l rest)
      | inr behind ↦ rw (le-ltb at end behind) (let h = apart_few n (at + n) long places within rest in omega (arith, h, behind))
    ]

module _ (g : Graph) (w : List Item) where
  block_few : (block : ℕ) → length (occurrences_in w (items_of g block)) * length w ≤ length (items_of g block)
  block_few block =
      let fit : All (λ at. at + length w ≤ length (items_of g block)) (places_from w 0 (items_of g block)) =
      All-weaker (Stands w (items_of g block)) (λ at. at + length w ≤ length (items_of g block)) (λ at s. within at s) (places_from w 0 (items_of g block)) (places_stand w (items_of g block) 0 (items_of g block) refl (omega arith)) in
      omega (arith, apart_few (length w) 0 (length (items_of g block)) (places_from w 0 (items_of g block)) (omega arith) fit)
    where
      within : (at : ℕ) → Stands w (items_of g block) at → at + length w ≤ length (items_of g block)
      within at s = omega (arith, s.0, ap (λ (is : List Item). length is) s.1, length-take (length w) (drop at (items_of g block)), length-drop at (items_of g block))

  among_few : (names : List ℕ) → length (occurrences_among g w names) * length w ≤ total (map (λ name. items_of g name) names)
  unfolding total
  among_few [] = omega arith
  among_few (block ∷ names) =
      let size : length (occurrences_among g w (block ∷ names)) ≡ length (occurrences_in w (items_of g block)) + length (occurrences_among g w names) =
      length-append (map (in_block block) (occurrences_in w (items_of g block))) (occurrences_among g w names) ∙ ap (λ k. k + length (occurrences_among g w names)) (length-map (occurrences_in w (items_of g block)) (in_block block)) in
      omega (arith, among_few names, block_few block, ap (λ k. k * length w) size)

  pub occurrences_few : IsGraph g → length (occurrences g w) * length w ≤ length (items_of_blocks g.blocks)
  occurrences_few rules = omega (arith, among_few (names_of g), ap total (named_items g [] g.blocks rules refl) ∙ total_of_blocks g.blocks)

pub less_by_one : (k n : ℕ) → k * (n - 1) ≤ k * n
less_by_one zero n = omega arith
less_by_one (suc k) n = omega (arith, less_by_one k n)
