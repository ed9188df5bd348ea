-- What there is and what is spare add up to the same.
use Rattle.std.proofs.Common.{◌≡◌, ℕ, ◌-◌, ◌<◌, List, [], ◌∷◌, length, refl, ap, ◌∙◌, subst, arith, ◌+◌, ◌++◌, take, drop, length-append}
use Rattle.sq_graph.specs.declared.item.Item.{Item}
use Rattle.sq_graph.specs.declared.item.Term.{Term}
use Rattle.sq_graph.specs.Graph.{Graph, Block}
use Rattle.sq_graph.specs.Blocks.{items_of, HasBlock, block_items, items_of_blocks, items_of_bodies, all_items}
use Rattle.sq_graph.specs.Operations.{redirected, without_block, with_blocks, with_term, replaced, replaced_items}
use Rattle.sq_graph.specs.declared.parts.Room.{Room}
use Rattle.sq_graph.specs.Renames.{retargeted_block, swapped, retargeted_item, retargeted_procedure}
use Rattle.sq_graph.specs.Room.{GraphAndRoom, KeepsTotal, count_of, sum_of}
use Rattle.sq_graph.proofs.Located.{located, IsAt, items_of_blocks-append}
use Rattle.sq_graph.proofs.SlotReads.{block_at}
use Rattle.std.proofs.lemmas.List.{length-map, length-take, length-drop}
use Rattle.sq_graph.proofs.Changes.{with_blocks-at, items_of_blocks-changed}
use Rattle.sq_graph.proofs.RetargetRules.{all_items-other}
use Rattle.sq_graph.proofs.Sizes.{same_room}

-- how many blocks, and how many items of blocks, once a block became others
block_count : (f : Block → List Block) (blocks : List Block) (name : ℕ) (at : IsAt blocks name) → length (with_blocks f blocks name) + 1 ≡ length blocks + length (f at.block)
block_count f blocks name at =
    omega (
      arith,
      ap (λ bs. length bs) (with_blocks-at f blocks name at),
      ap (λ bs. length bs) at.whole,
      length-append at.front (f at.block ++ at.back),
      length-append (f at.block) at.back,
      length-append at.front (at.block ∷ at.back),
    )

item_count : (f : Block → List Block) (blocks : List Block) (name : ℕ) (at : IsAt blocks name) → length (items_of_blocks (with_blocks f blocks name)) + length at.block.items ≡ length (items_of_blocks blocks) + length (items_of_blocks (f at.block))
item_count f blocks name at =
    omega (
      arith,
      ap (λ is. length is) (items_of_blocks-changed f blocks name at),
      ap (λ bs. length (items_of_blocks bs)) at.whole,
      ap (λ is. length is) (items_of_blocks-append at.front (at.block ∷ at.back)),
      length-append (items_of_blocks at.front) (items_of_blocks (f at.block) ++ items_of_blocks at.back),
      length-append (items_of_blocks (f at.block)) (items_of_blocks at.back),
      length-append (items_of_blocks at.front) (at.block.items ++ items_of_blocks at.back),
      length-append at.block.items (items_of_blocks at.back),
    )

items_at : (g : Graph) (name : ℕ) (at : IsAt g.blocks name) → items_of g name ≡ at.block.items
items_at g name at = ap block_items (block_at g.blocks name at)

pub term_total : (g : Graph) (block : ℕ) (t : Term) (spare : Room) → HasBlock g block → sum_of (count_of (with_term g block t)) spare ≡ sum_of (count_of g) spare
term_total g block t spare has =
    let f : Block → List Block = λ b. record b { term = t } ∷ [] in
    let at = located g.blocks block has in
    let own : length (items_of_blocks (record at.block { term = t } ∷ [])) ≡ length at.block.items = omega (arith, length-append at.block.items []) in
    let blocks = block_count (λ b. record b { term = t } ∷ []) g.blocks block at in
    let items = item_count (λ b. record b { term = t } ∷ []) g.blocks block at in
    same_room (sum_of (count_of (with_term g block t)) spare) (sum_of (count_of g) spare)
    (omega (arith, blocks))
    (omega (arith, own, items, length-append (items_of_blocks (with_blocks (λ b. record b { term = t } ∷ []) g.blocks block)) (items_of_bodies g.procedures), length-append (items_of_blocks g.blocks) (items_of_bodies g.procedures)))
    refl

pub without_total : (g : Graph) (block : ℕ) (spare : Room) → HasBlock g block
    → sum_of (count_of (without_block g block)) (record spare { blocks = spare.blocks + 1; items = spare.items + length (items_of g block) }) ≡ sum_of (count_of g) spare
without_total g block spare has =
    let at = located g.blocks block has in
    let blocks = block_count (λ b. []) g.blocks block at in
    let items = item_count (λ b. []) g.blocks block at in
    same_room (sum_of (count_of (without_block g block)) (record spare { blocks = spare.blocks + 1; items = spare.items + length (items_of g block) })) (sum_of (count_of g) spare)
    (omega (arith, blocks))
    (omega (arith, ap (λ is. length is) (items_at g block at), items, length-append (items_of_blocks (with_blocks (λ b. []) g.blocks block)) (items_of_bodies g.procedures), length-append (items_of_blocks g.blocks) (items_of_bodies g.procedures)))
    refl

pub redirected_total : (g : Graph) (from to : ℕ) (spare : Room) → sum_of (count_of (redirected g from to)) spare ≡ sum_of (count_of g) spare
redirected_total g from to spare =
    same_room (sum_of (count_of (redirected g from to)) spare) (sum_of (count_of g) spare)
    (omega (arith, length-map g.blocks (retargeted_block (swapped from to))))
    (omega (arith, ap (λ is. length is) (all_items-other (swapped from to) (λ b. b.name) g), length-map (all_items g) (retargeted_item (swapped from to))))
    (omega (arith, length-map g.procedures (retargeted_procedure (swapped from to))))

one_fewer : (items : List Item) (at : ℕ) → at < length items → length (replaced_items items at 1 []) + 1 ≡ length items
one_fewer items at there = omega (arith, there, length-append (take at items) (drop (at + 1) items), length-take at items, length-drop (at + 1) items)

pub replaced_total : (g : Graph) (block at : ℕ) (spare : Room) → HasBlock g block → at < length (items_of g block)
    → sum_of (count_of (replaced g block at 1 [])) (record spare { items = spare.items + 1 - 0 }) ≡ sum_of (count_of g) spare
replaced_total g block at spare has there =
    let spot = located g.blocks block has in
    let new : Block = record spot.block { items = replaced_items spot.block.items at 1 [] } in
    let own : length (items_of_blocks (new ∷ [])) ≡ length new.items = omega (arith, length-append new.items []) in
    let is = items_at g block spot in
    let size = one_fewer spot.block.items at (subst (λ items. at < length items) is there) in
    let blocks = block_count (λ b. record b { items = replaced_items b.items at 1 [] } ∷ []) g.blocks block spot in
    let items = item_count (λ b. record b { items = replaced_items b.items at 1 [] } ∷ []) g.blocks block spot in
    same_room (sum_of (count_of (replaced g block at 1 [])) (record spare { items = spare.items + 1 - 0 })) (sum_of (count_of g) spare)
    (omega (arith, blocks))
    (omega (arith, own, size, items, length-append (items_of_blocks (with_blocks (λ b. record b { items = replaced_items b.items at 1 [] } ∷ []) g.blocks block)) (items_of_bodies g.procedures), length-append (items_of_blocks g.blocks) (items_of_bodies g.procedures)))
    refl

no_items : (items : List Item) → length (replaced_items items 0 (length items) []) ≡ 0
no_items items = omega (arith, length-append (take 0 items) (drop (0 + length items) items), length-take 0 items, length-drop (0 + length items) items)

pub emptied_total : (g : Graph) (block : ℕ) (spare : Room) → HasBlock g block
    → sum_of (count_of (replaced g block 0 (length (items_of g block)) [])) (record spare { items = spare.items + length (items_of g block) - 0 }) ≡ sum_of (count_of g) spare
emptied_total g block spare has =
    let spot = located g.blocks block has in
    let is = items_at g block spot in
    let count = length (items_of g block) in
    let new : Block = record spot.block { items = replaced_items spot.block.items 0 (length (items_of g block)) [] } in
    let own : length (items_of_blocks (new ∷ [])) ≡ length new.items = omega (arith, length-append new.items []) in
    let none : length new.items ≡ 0 = ap (λ n. length (replaced_items spot.block.items 0 n [])) (ap (λ items. length items) is) ∙ no_items spot.block.items in
    let blocks = block_count (λ b. record b { items = replaced_items b.items 0 (length (items_of g block)) [] } ∷ []) g.blocks block spot in
    let items = item_count (λ b. record b { items = replaced_items b.items 0 (length (items_of g block)) [] } ∷ []) g.blocks block spot in
    same_room (sum_of (count_of (replaced g block 0 (length (items_of g block)) [])) (record spare { items = spare.items + length (items_of g block) - 0 })) (sum_of (count_of g) spare)
    (omega (arith, blocks))
    (omega (arith, own, none, items, ap (λ items. length items) is, length-append (items_of_blocks (with_blocks (λ b. record b { items = replaced_items b.items 0 (length (items_of g block)) [] } ∷ []) g.blocks block)) (items_of_bodies g.procedures), length-append (items_of_blocks g.blocks) (items_of_bodies g.procedures)))
    refl

-- what there is and what is spare, of a graph that is known
pub total_by : (old new : GraphAndRoom) (h : Graph) (spare : Room) → new.graph ≡ h → new.spare ≡ spare → sum_of (count_of h) spare ≡ sum_of (count_of old.graph) old.spare → KeepsTotal old new
total_by old new h spare is left total = ap (λ (g : Graph). sum_of (count_of g) new.spare) is ∙ ap (λ (r : Room). sum_of (count_of h) r) left ∙ total

-- what is spare once a block is gone
pub removed_spare : (old spare : Room) (count : Graph → ℕ) (g h : Graph) → old ≡ spare → g ≡ h
    → record old { blocks = old.blocks + 1; items = old.items + count g } ≡ record spare { blocks = spare.blocks + 1; items = spare.items + count h }
removed_spare old spare count g h left same =
    ap (λ (r : Room). record r { blocks = r.blocks + 1; items = r.items + count g }) left ∙ ap (λ (k : Graph). record spare { blocks = spare.blocks + 1; items = spare.items + count k }) same
