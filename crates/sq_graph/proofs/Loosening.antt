-- Fields whose items lie in no order from now on.
use Rattle.std.proofs.Common.{◌≡◌, ℕ, ◌+◌, ◌≤◌, ◌<◌, ◌^◌, List, length, take, drop, Vec, Global, vec_capacity, None, Some, is_some, refl, sym, ap, ◌∙◌, arith}
use Rattle.sq_graph.specs.declared.item.Item.{Item}
use Rattle.sq_graph.specs.declared.graph.Graph.TheInside.{Inside}
use Rattle.sq_graph.specs.Packed.{AreLaid}
use Rattle.sq_graph.specs.Layout.{graph_of, IsSound}
use Rattle.sq_graph.proofs.Strewn.{laid_ends, laid_copied, blocks_ahead}
use Rattle.sq_graph.proofs.Disjoint.{laid_disjoint}
use Rattle.sq_graph.proofs.Held.{Shows, laid, laid_shows, limits_of, kept}

-- other room in the vectors, while items lie in layout order
pub more_room : (inside : Inside) (scratch items : Vec Item Global) → IsSound inside → inside.loose.free ≡ None → items.items ≡ inside.items.items → vec_capacity inside.items ≤ vec_capacity items
    → Shows (record inside { items = items; loose = record inside.loose { scratch = scratch } }) (graph_of inside)
more_room inside scratch items sound order is capacity =
    let new : Inside = record inside { items = items; loose = record inside.loose { scratch = scratch } } in
    kept inside new sound
    (record {
      slots = refl;
      items = is;
      blocks_end = refl;
      gaps = refl;
      lie = laid_copied inside.slots.entries inside.blocks_end (vec_capacity inside.loose.scratch) (vec_capacity scratch) inside.loose.free inside.loose.free refl sound.gaps.lie (λ some. absurd (cc (sym (ap is_some order) ∙ some)));
      entry = refl;
      code_words = refl;
      bodies = refl;
    })
    (record {
      items = omega (arith, ap (λ (xs : List Item). length xs) is, sound.room.items);
      item_room = omega (arith, capacity, sound.room.item_room);
      bodies = sound.room.bodies;
      body_room = sound.room.body_room;
    })
    (let limits = limits_of inside sound in record { blocks = limits.blocks; item_room = limits.item_room; body_room = limits.body_room })

-- a hole ahead of the bodies, which is free
pub loosens : (inside : Inside) (scratch items : Vec Item Global) (hole room : ℕ) → IsSound inside → inside.blocks_end ≤ vec_capacity scratch
    → take inside.blocks_end items.items ≡ take inside.blocks_end inside.items.items → drop (inside.blocks_end + hole) items.items ≡ drop inside.blocks_end inside.items.items
    → length items.items ≡ length inside.items.items + hole → length items.items ≤ room → room ≤ vec_capacity items → room < 2 ^ 29
    → Shows (record inside { items = items; blocks_end = inside.blocks_end + hole; gaps = inside.gaps + hole; loose = record { free = Some inside.blocks_end; scratch = scratch }; item_room = room }) (graph_of inside)
loosens inside scratch items hole room sound fits ahead behind long within capacity small =
    let new : Inside = record inside { items = items; blocks_end = inside.blocks_end + hole; gaps = inside.gaps + hole; loose = record { free = Some inside.blocks_end; scratch = scratch }; item_room = room } in
    let lays = laid inside sound in
    let limits = limits_of inside sound in
    let ends = laid_ends inside.slots.entries inside.blocks_end inside.loose.free (vec_capacity inside.loose.scratch) sound.gaps.lie in
    let disjoint = laid_disjoint inside.slots.entries inside.blocks_end inside.loose.free (vec_capacity inside.loose.scratch) sound.gaps.lie in
    let lie : AreLaid inside.slots.entries (inside.blocks_end + hole) (Some inside.blocks_end) (vec_capacity scratch) = (ends, (omega arith, (omega (arith, lays.counted, fits), disjoint))) in
    laid_shows new (graph_of inside)
    (record {
      blocks = blocks_ahead inside.slots.entries inside.items.items items.items inside.blocks_end ends ahead;
      lie = lie;
      within = omega (arith, lays.within, long);
      counted = omega (arith, lays.counted);
      behind = behind ∙ lays.behind;
      entry = refl;
      code_words = refl;
      bodies = lays.bodies;
    })
    sound.rules
    (record {
      items = within;
      item_room = capacity;
      bodies = sound.room.bodies;
      body_room = sound.room.body_room;
    })
    (record { blocks = limits.blocks; item_room = small; body_room = limits.body_room })
