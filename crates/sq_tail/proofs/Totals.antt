-- What there is and what is spare stays, where a block is split, or loses items, or has another term.
use Rattle.std.proofs.Common.{◌≡◌, ℕ, ◌+◌, ◌-◌, ◌<◌, ◌≤◌, List, [], ◌∷◌, ◌++◌, length, take, drop, ap, ◌∙◌, subst, refl, arith, length-append, take-append-drop}
use Rattle.sq_graph.specs.declared.item.Item.{Item}
use Rattle.sq_graph.specs.declared.item.Term.{Term}
use Rattle.sq_graph.specs.declared.parts.Room.{Room}
use Rattle.sq_graph.specs.Graph.{Block, Graph}
use Rattle.sq_graph.specs.Blocks.{HasBlock, items_of, block_items, items_of_blocks, items_of_bodies}
use Rattle.sq_graph.specs.Operations.{with_blocks, halves, split_at, with_term, replaced, replaced_items}
use Rattle.sq_graph.specs.Room.{GraphAndRoom, KeepsTotal, count_of, sum_of}
use Rattle.sq_graph.proofs.Located.{IsAt, located, items_of_blocks-append}
use Rattle.sq_graph.proofs.SlotReads.{block_at}
use Rattle.sq_graph.proofs.Changes.{with_blocks-at, items_of_blocks-changed}
use Rattle.sq_graph.proofs.Sizes.{same_room}
use Rattle.sq_tail.proofs.Merging.{left_over}

-- of a graph that is known
pub total_by : (old new : GraphAndRoom) (h : Graph) (spare : Room) → new.graph ≡ h → new.spare ≡ spare → sum_of (count_of h) spare ≡ sum_of (count_of old.graph) old.spare → KeepsTotal old new
total_by old new h spare is left total = ap (λ (g : Graph). sum_of (count_of g) new.spare) is ∙ ap (λ (r : Room). sum_of (count_of h) r) left ∙ total

pub total_through : (old mid new : GraphAndRoom) → KeepsTotal old mid → KeepsTotal mid new → KeepsTotal old new
total_through old mid new first second = second ∙ first

-- how many blocks, and how many items of blocks, once a block became others
block_count : (f : Block → List Block) (blocks : List Block) (name : ℕ) (at : IsAt blocks name) → length (with_blocks f blocks name) + 1 ≡ length blocks + length (f at.block)
block_count f blocks name at =
    omega (
      arith,
      ap (λ bs. length bs) (with_blocks-at f blocks name at),
      ap (λ bs. length bs) at.whole,
      length-append at.front (f at.block ++ at.back),
      length-append (f at.block) at.back,
      length-append at.front (at.block ∷ at.back),
    )

item_count : (f : Block → List Block) (blocks : List Block) (name : ℕ) (at : IsAt blocks name) → length (items_of_blocks (with_blocks f blocks name)) + length at.block.items ≡ length (items_of_blocks blocks) + length (items_of_blocks (f at.block))
item_count f blocks name at =
    omega (
      arith,
      ap (λ is. length is) (items_of_blocks-changed f blocks name at),
      ap (λ bs. length (items_of_blocks bs)) at.whole,
      ap (λ is. length is) (items_of_blocks-append at.front (at.block ∷ at.back)),
      length-append (items_of_blocks at.front) (items_of_blocks (f at.block) ++ items_of_blocks at.back),
      length-append (items_of_blocks (f at.block)) (items_of_blocks at.back),
      length-append (items_of_blocks at.front) (at.block.items ++ items_of_blocks at.back),
      length-append at.block.items (items_of_blocks at.back),
    )

items_at : (g : Graph) (name : ℕ) (at : IsAt g.blocks name) → items_of g name ≡ at.block.items
items_at g name at = ap block_items (block_at g.blocks name at)

-- what is spare falls by the blocks that come, and rises by the items that go
changed_total : (f : Block → List Block) (g : Graph) (block : ℕ) (spare left : Room) → (at : IsAt g.blocks block) → left.blocks + length (f at.block) ≡ spare.blocks + 1 → left.items + length (items_of_blocks (f at.block)) ≡ spare.items + length at.block.items → left.procedures ≡ spare.procedures
    → sum_of (count_of (record g { blocks = with_blocks f g.blocks block })) left ≡ sum_of (count_of g) spare
changed_total f g block spare left at blocks items procedures =
    same_room (sum_of (count_of (record g { blocks = with_blocks f g.blocks block })) left) (sum_of (count_of g) spare)
    (omega (arith, blocks, block_count f g.blocks block at))
    (omega (arith, items, item_count f g.blocks block at, length-append (items_of_blocks (with_blocks f g.blocks block)) (items_of_bodies g.procedures), length-append (items_of_blocks g.blocks) (items_of_bodies g.procedures)))
    (omega (arith, procedures))

pub term_total : (g : Graph) (block : ℕ) (t : Term) (spare : Room) → HasBlock g block → sum_of (count_of (with_term g block t)) spare ≡ sum_of (count_of g) spare
term_total g block t spare has =
    let at = located g.blocks block has in
    changed_total (λ b. record b { term = t } ∷ []) g block spare spare at (omega arith) (omega (arith, length-append at.block.items [])) refl

pub cut_total : (g : Graph) (block at n : ℕ) (spare : Room) → HasBlock g block → at + n ≤ length (items_of g block)
    → sum_of (count_of (replaced g block at n [])) (record spare { items = spare.items + n - 0 }) ≡ sum_of (count_of g) spare
cut_total g block at n spare has within =
    let spot = located g.blocks block has in
    let here : at + n ≤ length spot.block.items = subst (λ (items : List Item). at + n ≤ length items) (items_at g block spot) within in
    let size = left_over spot.block.items at n here in
    changed_total (λ b. record b { items = replaced_items b.items at n [] } ∷ []) g block spare (record spare { items = spare.items + n - 0 }) spot (omega arith)
    (omega (arith, size, length-append (replaced_items spot.block.items at n []) [])) refl

pub split_total : (g : Graph) (new block at : ℕ) (spare : Room) → HasBlock g block → 0 < spare.blocks
    → sum_of (count_of (split_at g new block at)) (record spare { blocks = spare.blocks - 1 }) ≡ sum_of (count_of g) spare
split_total g new block at spare has some =
    let spot = located g.blocks block has in
    let items = spot.block.items in
    changed_total (halves new at) g block spare (record spare { blocks = spare.blocks - 1 }) spot (omega (arith, some))
    (omega (arith, length-append (take at items) (drop at items ++ []), length-append (drop at items) [], length-append (take at items) (drop at items), ap (λ (is : List Item). length is) (take-append-drop at items))) refl
