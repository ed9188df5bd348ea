-- What there is and what is spare add up to the same, once calls are given away or a procedure is gone.
use Rattle.std.proofs.Common.{◌≡◌, ℕ, zero, suc, ◌+◌, ◌<◌, List, [], ◌∷◌, map, remove, length, slice_get, refl, ◌∙◌, arith, length-append}
use Rattle.std.proofs.lemmas.List.{length-map}
use Rattle.std.proofs.lemmas.List.Edits.{length-remove}
use Rattle.sq_graph.specs.declared.parts.Room.{Room}
use Rattle.sq_graph.specs.Graph.{Block, Procedure, Graph}
use Rattle.sq_graph.specs.Blocks.{HasProcedure, items_of_blocks, items_of_bodies, procedure_body, body_of}
use Rattle.sq_graph.specs.Operations.{redirected_calls, without_procedure}
use Rattle.sq_graph.specs.Renames.{recalled_item, recalled_items, recalled_block, recalled_procedure, recalled, swapped, lowered}
use Rattle.sq_graph.specs.Room.{count_of, sum_of}
use Rattle.sq_graph.proofs.Sizes.{same_room}

blocks_recalled : (f : ℕ → ℕ) (bs : List Block) → length (items_of_blocks (map (recalled_block f) bs)) ≡ length (items_of_blocks bs)
blocks_recalled f [] = refl
blocks_recalled f (b ∷ bs) =
    omega (arith, blocks_recalled f bs, length-map b.items (recalled_item f), length-append b.items (items_of_blocks bs), length-append (recalled_items f b.items) (items_of_blocks (map (recalled_block f) bs)))

bodies_recalled : (f : ℕ → ℕ) (ps : List Procedure) → length (items_of_bodies (map (recalled_procedure f) ps)) ≡ length (items_of_bodies ps)
bodies_recalled f [] = refl
bodies_recalled f (p ∷ ps) =
    omega (arith, bodies_recalled f ps, length-map p.body (recalled_item f), length-append p.body (items_of_bodies ps), length-append (recalled_items f p.body) (items_of_bodies (map (recalled_procedure f) ps)))

bodies_removed : (ps : List Procedure) (q : ℕ) → q < length ps → length (items_of_bodies (remove ps q)) + length (procedure_body (slice_get ps q)) ≡ length (items_of_bodies ps)
bodies_removed [] q below = absurd (omega (arith, below))
bodies_removed (p ∷ ps) zero below = omega (arith, length-append p.body (items_of_bodies ps))
bodies_removed (p ∷ ps) (suc q) below = omega (arith, bodies_removed ps q (omega (arith, below)), length-append p.body (items_of_bodies ps), length-append p.body (items_of_bodies (remove ps q)))

pub recalled_total : (f : ℕ → ℕ) (g : Graph) (spare : Room) → sum_of (count_of (recalled f g)) spare ≡ sum_of (count_of g) spare
recalled_total f g spare =
    same_room (sum_of (count_of (recalled f g)) spare) (sum_of (count_of g) spare)
    (omega (arith, length-map g.blocks (recalled_block f)))
    (omega (
      arith,
      blocks_recalled f g.blocks,
      bodies_recalled f g.procedures,
      length-append (items_of_blocks (map (recalled_block f) g.blocks)) (items_of_bodies (map (recalled_procedure f) g.procedures)),
      length-append (items_of_blocks g.blocks) (items_of_bodies g.procedures),
    ))
    (omega (arith, length-map g.procedures (recalled_procedure f)))

-- what is spare once a procedure is gone
abbrev pub with_procedure : Graph → ℕ → Room → Room
with_procedure g q spare = record spare { items = spare.items + length (body_of g q); procedures = spare.procedures + 1 }

pub uncalled_total : (g : Graph) (q : ℕ) (spare : Room) → HasProcedure g q → sum_of (count_of (without_procedure g q)) (with_procedure g q spare) ≡ sum_of (count_of g) spare
uncalled_total g q spare has =
    same_room (sum_of (count_of (without_procedure g q)) (with_procedure g q spare)) (sum_of (count_of g) spare)
    (omega (arith, length-map g.blocks (recalled_block (lowered q))))
    (omega (
      arith,
      blocks_recalled (lowered q) g.blocks,
      bodies_recalled (lowered q) (remove g.procedures q),
      bodies_removed g.procedures q has,
      length-append (items_of_blocks (map (recalled_block (lowered q)) g.blocks)) (items_of_bodies (map (recalled_procedure (lowered q)) (remove g.procedures q))),
      length-append (items_of_blocks g.blocks) (items_of_bodies g.procedures),
    ))
    (omega (arith, length-map (remove g.procedures q) (recalled_procedure (lowered q)), length-remove g.procedures q has, has))

-- the calls of a procedure are given to another one, and it goes
pub double_total : (g : Graph) (stays goes : ℕ) (spare : Room) → HasProcedure (redirected_calls g goes stays) goes
    → sum_of (count_of (without_procedure (redirected_calls g goes stays) goes)) (with_procedure (redirected_calls g goes stays) goes spare) ≡ sum_of (count_of g) spare
double_total g stays goes spare has =
    uncalled_total (redirected_calls g goes stays) goes spare has ∙ recalled_total (swapped goes stays) g spare
