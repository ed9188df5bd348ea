-- Fields that leave no gap between the items of blocks, as they are once the gaps are closed.
use Rattle.std.proofs.Common.{◌≡◌, ℕ, ◌+◌, ◌++◌, Vec, Global, None, refl, ap, ◌∙◌, arith}
use Rattle.sq_arena.specs.Arena.{Arena as Listed}
use Rattle.sq_graph.specs.declared.item.Item.{Item}
use Rattle.sq_graph.specs.declared.slot.Slot.{Slot}
use Rattle.sq_graph.specs.declared.loose.Loose.{Loose}
use Rattle.sq_graph.specs.declared.graph.Graph.TheInside.{Inside}
use Rattle.sq_graph.specs.Blocks.{items_of_blocks}
use Rattle.sq_graph.specs.Cursor.{length_of_slots}
use Rattle.sq_graph.specs.Packed.{KeepsBlocks}
use Rattle.sq_graph.specs.Rules.{IsGraph}
use Rattle.sq_graph.specs.Room.{GraphAndRoom}
use Rattle.sq_graph.specs.Layout.{graph_of, spare_of, shown, Holds, HasRoom, IsSound}
use Rattle.sq_graph.proofs.Sizes.{same_room}
use Rattle.sq_graph.proofs.Laid.{lies_tight, lies_count}
use Rattle.sq_graph.proofs.Held.{IsLimited, Lays, laid, laid_shows, limits_of, counts, in_order}

pub record IsTight (inside : Inside) : Type 0 where
  pub holds : Holds inside (graph_of inside)
  pub rules : IsGraph (graph_of inside)
  pub room : HasRoom inside
  pub limits : IsLimited inside
  pub sound : IsSound inside

pub limited : (inside : Inside) → IsTight inside → IsLimited inside
limited inside tight = tight.limits

pub tight : (inside : Inside) → IsSound inside → inside.gaps ≡ 0 → inside.loose.free ≡ None → IsTight inside
tight inside sound none order =
    let g = graph_of inside in
    let lays = laid inside sound in
    let full : 0 + length_of_slots inside.slots.entries ≡ inside.blocks_end = omega (arith, none, lays.counted) in
    let lies = in_order inside sound order in
    let is = lies_tight inside.items.items 0 inside.slots.entries g.blocks inside.blocks_end lies full in
    record {
      holds =
          record {
            slots = is.0;
            items = is.1 ∙ ap (λ xs. items_of_blocks g.blocks ++ xs) lays.behind;
            blocks_end = omega (arith, full, lies_count inside.items.items 0 inside.slots.entries g.blocks inside.blocks_end lies);
            gaps = none;
            order = order;
            entry = refl;
            code_words = refl;
            bodies = sound.bodies;
          };
      rules = sound.rules;
      room = sound.room;
      limits = limits_of inside sound;
      sound = sound;
    }

-- the fields are sound, and show this
pub record Still (v : GraphAndRoom) (now : Inside) : Type 0 where
  pub view_is : shown now ≡ v
  pub sound : IsSound now

-- other slots and items that keep the blocks
pub still : {old : Inside} {v : GraphAndRoom} {slots : Listed Slot} {items : Vec Item Global} {blocks_end gaps : ℕ} {loose : Loose} → shown old ≡ v → IsSound old → KeepsBlocks old.slots old.items old.blocks_end old.gaps slots items blocks_end gaps loose
    → Still v (record old { slots = slots; items = items; blocks_end = blocks_end; gaps = gaps; loose = loose })
still {old = old} {v = v} {slots = slots} {items = items} {blocks_end = blocks_end} {gaps = gaps} {loose = loose} view_is sound keeps =
    let g = graph_of old in
    let new : Inside = record old { slots = slots; items = items; blocks_end = blocks_end; gaps = gaps; loose = loose } in
    let was = laid old sound in
    let lays : Lays (record old { slots = slots; items = items; blocks_end = blocks_end; gaps = gaps; loose = loose }) (graph_of old) = record {
      blocks = keeps.blocks;
      lie = keeps.gaps.lie;
      within = keeps.gaps.within;
      counted = keeps.gaps.counted;
      behind = keeps.behind ∙ was.behind;
      entry = refl;
      code_words = refl;
      bodies = was.bodies;
    } in
    let before = counts old g was in
    let after = counts new g lays in
    let limits = limits_of old sound in
    let shows = laid_shows new g lays sound.rules
    (record {
      items = omega (arith, before.items, after.items, keeps.fewer, sound.room.items);
      item_room = omega (arith, keeps.capacity, sound.room.item_room);
      bodies = sound.room.bodies;
      body_room = sound.room.body_room;
    })
    (record { blocks = omega (arith, before.blocks, after.blocks, keeps.spare, limits.blocks); item_room = limits.item_room; body_room = limits.body_room }) in
    record {
      view_is =
          (λ i. record {
            graph = shows.is i;
            spare = same_room (spare_of new) (spare_of old) keeps.spare (omega (arith, before.items, after.items, keeps.fewer, sound.room.items)) refl i;
          })
          ∙ view_is;
      sound = shows.sound;
    }

-- the fields leave no gap, and show this
pub record Closed (v : GraphAndRoom) (now : Inside) : Type 0 where
  pub view_is : shown now ≡ v
  pub tight : IsTight now

pub closed : {old : Inside} {v : GraphAndRoom} {slots : Listed Slot} {items : Vec Item Global} {blocks_end gaps : ℕ} {loose : Loose} → shown old ≡ v → IsSound old → KeepsBlocks old.slots old.items old.blocks_end old.gaps slots items blocks_end gaps loose → gaps ≡ 0 → loose.free ≡ None
    → Closed v (record old { slots = slots; items = items; blocks_end = blocks_end; gaps = gaps; loose = loose })
closed {old = old} {v = v} {slots = slots} {items = items} {blocks_end = blocks_end} {gaps = gaps} {loose = loose} view_is sound keeps none order =
    let same = still view_is sound keeps in
    record { view_is = same.view_is; tight = tight (record old { slots = slots; items = items; blocks_end = blocks_end; gaps = gaps; loose = loose }) same.sound none order }
