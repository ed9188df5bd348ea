-- What there is and what is spare add up to the same.
use Rattle.std.proofs.Common.{◌≡◌, ℕ, ◌+◌, ◌-◌, ◌≤◌, List, [], ◌∷◌, ◌++◌, take, drop, length, inl, inr, refl, ap, ◌∙◌, subst, arith, length-append}
use Rattle.std.specs.Prelude.{sum_by, ◌==◌}
use Rattle.std.specs.List.{slice_range}
use Rattle.std.proofs.lemmas.Bool.{cases_Bool}
use Rattle.std.proofs.lemmas.List.Sums.{sum_by-cons}
use Rattle.sq_arena.specs.Entries.{value_of}
use Rattle.sq_graph.specs.Words.{block_words, words_of}
use Rattle.std.proofs.lemmas.List.{length-take, length-drop}
use Rattle.sq_graph.specs.declared.parts.Room.{Room}
use Rattle.sq_graph.specs.declared.item.Item.{Item}
use Rattle.sq_graph.specs.Graph.{Block, Procedure, Graph}
use Rattle.sq_graph.specs.Blocks.{named, HasBlock, block_items, items_of, items_of_blocks, items_of_bodies}
use Rattle.sq_graph.specs.Operations.{with_blocks, replaced, replaced_items, outlined}
use Rattle.sq_graph.specs.Room.{GraphAndRoom, KeepsTotal, count_of, sum_of}
use Rattle.sq_graph.proofs.Located.{located, items_of_blocks-append}
use Rattle.sq_graph.proofs.SlotReads.{block_at}
use Rattle.sq_graph.proofs.Changes.{with_blocks-at, items_of_blocks-changed}
use Rattle.sq_graph.proofs.Sizes.{same_room}

-- of a graph that is known
pub total_by : (old new : GraphAndRoom) (h : Graph) (spare : Room) → new.graph ≡ h → new.spare ≡ spare → sum_of (count_of h) spare ≡ sum_of (count_of old.graph) old.spare → KeepsTotal old new
total_by old new h spare is left total = ap (λ (g : Graph). sum_of (count_of g) new.spare) is ∙ ap (λ (r : Room). sum_of (count_of h) r) left ∙ total

replaced_count : (items by : List Item) (at count : ℕ) → at + count ≤ length items → length (replaced_items items at count by) + count ≡ length items + length by
replaced_count items by at count there =
    omega (arith, there, length-append (take at items) (by ++ drop (at + count) items), length-append by (drop (at + count) items), length-take at items, length-drop (at + count) items)

pub replaced_total : (g : Graph) (block at count : ℕ) (by : List Item) (spare : Room) → HasBlock g block → at + count ≤ length (items_of g block) → length by ≤ count + spare.items
    → sum_of (count_of (replaced g block at count by)) (record spare { items = spare.items + count - length by }) ≡ sum_of (count_of g) spare
replaced_total g block at count by spare has there room =
    let f : Block → List Block = λ b. record b { items = replaced_items b.items at count by } ∷ [] in
    let spot = located g.blocks block has in
    let new : Block = record spot.block { items = replaced_items spot.block.items at count by } in
    let items_are : items_of g block ≡ spot.block.items = ap block_items (block_at g.blocks block spot) in
    let size = replaced_count spot.block.items by at count (subst (λ items. at + count ≤ length items) items_are there) in
    let own : length (items_of_blocks (new ∷ [])) ≡ length new.items = omega (arith, length-append new.items []) in
    let blocks : length (with_blocks f g.blocks block) ≡ length g.blocks =
    omega (arith, ap (λ bs. length bs) (with_blocks-at f g.blocks block spot), ap (λ bs. length bs) spot.whole, length-append spot.front (new ∷ spot.back), length-append spot.front (spot.block ∷ spot.back)) in
    let items : length (items_of_blocks (with_blocks f g.blocks block)) + length spot.block.items ≡ length (items_of_blocks g.blocks) + length new.items =
    omega (
      arith,
      own,
      ap (λ is. length is) (items_of_blocks-changed f g.blocks block spot),
      ap (λ bs. length (items_of_blocks bs)) spot.whole,
      ap (λ is. length is) (items_of_blocks-append spot.front (spot.block ∷ spot.back)),
      length-append (items_of_blocks spot.front) (items_of_blocks (f spot.block) ++ items_of_blocks spot.back),
      length-append (items_of_blocks (f spot.block)) (items_of_blocks spot.back),
      length-append (items_of_blocks spot.front) (spot.block.items ++ items_of_blocks spot.back),
      length-append spot.block.items (items_of_blocks spot.back),
    ) in
    same_room (sum_of (count_of (replaced g block at count by)) (record spare { items = spare.items + count - length by })) (sum_of (count_of g) spare)
    (omega (arith, blocks))
    (omega (arith, room, size, items, length-append (items_of_blocks (with_blocks f g.blocks block)) (items_of_bodies g.procedures), length-append (items_of_blocks g.blocks) (items_of_bodies g.procedures)))
    refl

bodies_more : (ps : List Procedure) (p : Procedure) → length (items_of_bodies (ps ++ p ∷ [])) ≡ length (items_of_bodies ps) + length p.body
bodies_more [] p = omega (arith, length-append p.body [])
bodies_more (q ∷ ps) p = omega (arith, length-append q.body (items_of_bodies (ps ++ p ∷ [])), length-append q.body (items_of_bodies ps), bodies_more ps p)

pub outlined_total : (g : Graph) (block at count link : ℕ) (spare : Room) → at + count ≤ length (items_of g block) → count ≤ spare.items → 1 ≤ spare.procedures
    → sum_of (count_of (outlined g block at count link)) (record spare { items = spare.items - count; procedures = spare.procedures - 1 }) ≡ sum_of (count_of g) spare
outlined_total g block at count link spare there room some =
    let new : Procedure = record { link = link; body = slice_range (items_of g block) at (at + count) } in
    let size : length new.body ≡ count = omega (arith, there, length-take (at + count - at) (drop at (items_of g block)), length-drop at (items_of g block)) in
    let bodies = bodies_more g.procedures new in
    same_room (sum_of (count_of (outlined g block at count link)) (record spare { items = spare.items - count; procedures = spare.procedures - 1 })) (sum_of (count_of g) spare)
    refl
    (omega (arith, room, size, bodies, length-append (items_of_blocks g.blocks) (items_of_bodies (g.procedures ++ new ∷ [])), length-append (items_of_blocks g.blocks) (items_of_bodies g.procedures)))
    (omega (arith, some, length-append g.procedures (new ∷ [])))

-- the items of a block are among the words of the graph
items_in : (bs : List Block) (n : ℕ) → length (block_items (value_of (named bs) n)) ≤ sum_by block_words bs
items_in [] n = omega arith
items_in (b ∷ bs) n =
    elim (cases_Bool (b.name == n)) [
      | inl here ↦ rw here (omega (arith, sum_by-cons block_words b bs))
      | inr apart ↦ rw apart (omega (arith, sum_by-cons block_words b bs, items_in bs n))
    ]

pub items_are_words : (g : Graph) (n : ℕ) → length (items_of g n) ≤ words_of g
items_are_words g n = let l = items_in g.blocks n in omega arith
