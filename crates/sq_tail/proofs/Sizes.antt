-- A block's items are few, since all items of a graph are.
use Rattle.std.proofs.Common.{◌<◌, ◌≤◌, ◌^◌, ◌==◌, ℕ, Bool, true, false, List, [], ◌∷◌, Some, length, arith, if◌then◌else◌}
use Rattle.std.proofs.lemmas.List.{length-append}
use Rattle.sq_arena.specs.Entries.{value_of}
use Rattle.sq_graph.specs.Graph.{Block}
use Rattle.sq_graph.specs.Blocks.{named, block_items, items_of, items_of_blocks, items_of_bodies}
use Rattle.sq_graph.specs.Room.{GraphAndRoom, IsSmall, total_of}

within : (bs : List Block) (n : ℕ) → length (block_items (value_of (named bs) n)) ≤ length (items_of_blocks bs)
within [] n = omega arith
within (b ∷ bs) n = here (b.name == n) (within bs n) where
  here : (t : Bool) → length (block_items (value_of (named bs) n)) ≤ length (items_of_blocks bs) → length (block_items (if t then Some b else value_of (named bs) n)) ≤ length (items_of_blocks (b ∷ bs))
  here true rest = omega (arith, length-append b.items (items_of_blocks bs))
  here false rest = omega (arith, length-append b.items (items_of_blocks bs))

pub few_items : (v : GraphAndRoom) (block : ℕ) → IsSmall (total_of v) → length (items_of v.graph block) < 2 ^ 29
few_items v block h =
    let a = within v.graph.blocks block in
    let b = length-append (items_of_blocks v.graph.blocks) (items_of_bodies v.graph.procedures) in
    let d = h.items in
    omega arith
