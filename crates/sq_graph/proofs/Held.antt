-- The graph that the fields hold is the one that they show.
use Rattle.std.proofs.Common.{suc, ◌≡◌, ℕ, ◌+◌, ◌<◌, ◌^◌, List, [], ◌∷◌, ◌++◌, ◌≤◌, length, drop, vec_capacity, Option, None, Some, refl, sym, ap, ◌∙◌, subst, arith, length-append, length-drop}
use Rattle.std.proofs.lemmas.List.{take_at, drop_at}
use Rattle.sq_graph.specs.declared.slot.Slot.{Slot}
use Rattle.sq_graph.specs.declared.graph.Graph.TheInside.{Inside}
use Rattle.sq_graph.specs.Graph.{Block, Procedure, Graph}
use Rattle.sq_graph.specs.Blocks.{items_of_blocks, items_of_bodies, all_items}
use Rattle.sq_graph.specs.Rules.{IsGraph}
use Rattle.sq_graph.specs.Room.{IsSmall, count_of, sum_of}
use Rattle.sq_graph.specs.Slots.{slots_from, slots_of, without_starts, bodies_from}
use Rattle.sq_graph.specs.Cursor.{length_of_slots}
use Rattle.sq_arena.specs.Entries.{keys}
use Rattle.sq_graph.specs.Blocks.{named}
use Rattle.sq_graph.specs.Packed.{AreApart, AreLaid, blocks_of}
use Rattle.sq_graph.specs.Layout.{procedures_of, graph_of, spare_of, Holds, HasRoom, IsSound}
use Rattle.sq_graph.proofs.Laid.{Lies, lies_first, lies_count, lies_blocks, lies_apart, apart_lies, keys_blocks}
use Rattle.sq_graph.proofs.Strewn.{laid_ends, strewn_count, strewn_links, length-blocks_of}

pub length-bodies_from : (n : ℕ) (ps : List Procedure) → length (bodies_from n ps) ≡ length ps
length-bodies_from n [] = refl
length-bodies_from n (p ∷ rest) = ap suc (length-bodies_from (n + length p.body) rest)

procedures_of-bodies : (n : ℕ) (ps : List Procedure) → procedures_of (bodies_from n ps) (items_of_bodies ps) ≡ ps
procedures_of-bodies n [] = refl
procedures_of-bodies n (p ∷ ps) =
    ap (λ is. record { link = p.link; body = is } ∷ procedures_of (bodies_from (n + length p.body) ps) (drop (length p.body) (p.body ++ items_of_bodies ps))) (take_at p.body (items_of_bodies ps) (length p.body) refl)
    ∙ ap (λ is. p ∷ procedures_of (bodies_from (n + length p.body) ps) is) (drop_at p.body (items_of_bodies ps) (length p.body) refl)
    ∙ ap (λ qs. p ∷ qs) (procedures_of-bodies (n + length p.body) ps)

pub same_graph : (g h : Graph) → g.blocks ≡ h.blocks → g.entry ≡ h.entry → g.code_words ≡ h.code_words → g.procedures ≡ h.procedures → g ≡ h
same_graph g h blocks entry code_words procedures =
    ap (λ bs. record g { blocks = bs }) blocks
    ∙ ap (λ e. record h { entry = e; code_words = g.code_words; procedures = g.procedures }) entry
    ∙ ap (λ ws. record h { code_words = ws; procedures = g.procedures }) code_words
    ∙ ap (λ ps. record h { procedures = ps }) procedures

-- the fields show this graph, and meet the invariant
pub record Shows (inside : Inside) (g : Graph) : Type 0 where
  pub is : graph_of inside ≡ g
  pub sound : IsSound inside

-- the rooms are below their limits
pub record IsLimited (inside : Inside) : Type 0 where
  pub blocks : length inside.slots.entries + inside.slots.spare < 2 ^ 29
  pub item_room : inside.item_room < 2 ^ 29
  pub body_room : inside.body_room < 2 ^ 29

-- the fields hold this graph, in layout order or not, with gaps or without
pub record Lays (inside : Inside) (g : Graph) : Type 0 where
  pub blocks : blocks_of inside.slots.entries inside.items.items ≡ g.blocks
  pub lie : AreLaid inside.slots.entries inside.blocks_end inside.loose.free (vec_capacity inside.loose.scratch)
  pub within : inside.blocks_end ≤ length inside.items.items
  pub counted : inside.gaps + length_of_slots inside.slots.entries ≡ inside.blocks_end
  pub behind : drop inside.blocks_end inside.items.items ≡ items_of_bodies g.procedures
  pub entry : inside.entry ≡ g.entry
  pub code_words : inside.code_words.items ≡ g.code_words
  pub bodies : inside.bodies.items ≡ bodies_from 0 g.procedures

-- the numbers in the fields
pub record HasCounts (inside : Inside) (g : Graph) : Type 0 where
  pub blocks : length inside.slots.entries ≡ length g.blocks
  pub items : length (all_items g) + inside.gaps ≡ length inside.items.items
  pub bodies : length inside.bodies.items ≡ length g.procedures

pub counts : (inside : Inside) (g : Graph) → Lays inside g → HasCounts inside g
counts inside g lays =
    let ends = laid_ends inside.slots.entries inside.blocks_end inside.loose.free (vec_capacity inside.loose.scratch) lays.lie in
    record {
      blocks = sym (length-blocks_of inside.slots.entries inside.items.items) ∙ ap (λ (bs : List Block). length bs) lays.blocks;
      items = omega (arith, lays.within, lays.counted, ap (λ xs. length xs) lays.behind, length-drop inside.blocks_end inside.items.items, strewn_count inside.slots.entries inside.items.items inside.blocks_end ends lays.within, ap (λ (bs : List Block). length (items_of_blocks bs)) lays.blocks, length-append (items_of_blocks g.blocks) (items_of_bodies g.procedures));
      bodies = ap (λ bs. length bs) lays.bodies ∙ length-bodies_from 0 g.procedures;
    }

pub graph_of-laid : (inside : Inside) (g : Graph) → Lays inside g → graph_of inside ≡ g
graph_of-laid inside g lays =
    same_graph (graph_of inside) g
    lays.blocks
    lays.entry
    lays.code_words
    (ap (λ bs. procedures_of bs (drop inside.blocks_end inside.items.items)) lays.bodies
    ∙ ap (λ is. procedures_of (bodies_from 0 g.procedures) is) lays.behind
    ∙ procedures_of-bodies 0 g.procedures)

pub laid_shows : (inside : Inside) (g : Graph) → Lays inside g → IsGraph g → HasRoom inside → IsLimited inside → Shows inside g
laid_shows inside g lays rules room limits =
    let is = graph_of-laid inside g lays in
    let count = counts inside g lays in
    let small : IsSmall (sum_of (count_of g) (spare_of inside)) = record {
      blocks = omega (arith, count.blocks, limits.blocks);
      items = omega (arith, count.items, room.items, limits.item_room);
      procedures = omega (arith, count.bodies, room.bodies, limits.body_room);
    } in
    record {
      is = is;
      sound =
          record {
            gaps =
                record {
                  distinct = rw (keys_blocks inside.slots.entries inside.items.items ∙ ap (λ (bs : List Block). keys (named bs)) lays.blocks) rules.distinct;
                  lie = lays.lie;
                  within = lays.within;
                  counted = lays.counted;
                };
            behind = lays.behind ∙ ap (λ (h : Graph). items_of_bodies h.procedures) (sym is);
            bodies = lays.bodies ∙ ap (λ (h : Graph). bodies_from 0 h.procedures) (sym is);
            rules = subst IsGraph (sym is) rules;
            room = room;
            small = subst (λ (h : Graph). IsSmall (sum_of (count_of h) (spare_of inside))) (sym is) small;
          };
    }

-- in layout order
pub ordered : (inside : Inside) → inside.loose.free ≡ None → AreApart inside.slots.entries 0 inside.blocks_end → AreLaid inside.slots.entries inside.blocks_end inside.loose.free (vec_capacity inside.loose.scratch)
ordered inside order apart = subst (λ (free : Option ℕ). AreLaid inside.slots.entries inside.blocks_end free (vec_capacity inside.loose.scratch)) (sym order) apart

-- the same of fields without gaps
pub shows : (inside : Inside) (g : Graph) → Holds inside g → IsGraph g → HasRoom inside → IsLimited inside → Shows inside g
shows inside g holds rules room limits =
    let bs = g.blocks in
    let rest = items_of_bodies g.procedures in
    let first : Lies inside.items.items 0 (slots_from 0 g.blocks) g.blocks inside.blocks_end =
    lies_first [] g.blocks (items_of_bodies g.procedures) inside.items.items 0 inside.blocks_end holds.items refl (omega (arith, holds.blocks_end)) in
    let blocks : Lies inside.items.items 0 inside.slots.entries g.blocks inside.blocks_end =
    subst (λ (es : List (ℕ × Slot)). Lies inside.items.items 0 es g.blocks inside.blocks_end) (sym holds.slots) first in
    laid_shows inside g
    (record {
      blocks = lies_blocks inside.items.items 0 inside.slots.entries g.blocks inside.blocks_end blocks;
      lie = ordered inside holds.order (lies_apart inside.items.items 0 inside.slots.entries g.blocks inside.blocks_end blocks);
      within = omega (arith, holds.blocks_end, ap (λ xs. length xs) holds.items, length-append (items_of_blocks g.blocks) (items_of_bodies g.procedures));
      counted = omega (arith, holds.gaps, holds.blocks_end, lies_count inside.items.items 0 inside.slots.entries g.blocks inside.blocks_end blocks);
      behind =
          ap (λ is. drop inside.blocks_end is) holds.items
          ∙ drop_at (items_of_blocks g.blocks) (items_of_bodies g.procedures) inside.blocks_end (sym holds.blocks_end);
      entry = holds.entry;
      code_words = holds.code_words;
      bodies = holds.bodies;
    })
    rules room limits

-- sound fields hold the graph that they show
pub laid : (inside : Inside) → IsSound inside → Lays inside (graph_of inside)
laid inside sound =
    record {
      blocks = refl;
      lie = sound.gaps.lie;
      within = sound.gaps.within;
      counted = sound.gaps.counted;
      behind = sound.behind;
      entry = refl;
      code_words = refl;
      bodies = sound.bodies;
    }

-- where they lie in layout order
pub in_order : (inside : Inside) → IsSound inside → inside.loose.free ≡ None → Lies inside.items.items 0 inside.slots.entries (graph_of inside).blocks inside.blocks_end
in_order inside sound order =
    apart_lies inside.items.items 0 inside.slots.entries inside.blocks_end
    (subst (λ (free : Option ℕ). AreLaid inside.slots.entries inside.blocks_end free (vec_capacity inside.loose.scratch)) order sound.gaps.lie) sound.gaps.within

-- where they lie in no order
pub in_no_order : (inside : Inside) (free : ℕ) → IsSound inside → inside.loose.free ≡ Some free → AreLaid inside.slots.entries inside.blocks_end (Some free) (vec_capacity inside.loose.scratch)
in_no_order inside free sound loose =
    subst (λ (o : Option ℕ). AreLaid inside.slots.entries inside.blocks_end o (vec_capacity inside.loose.scratch)) loose sound.gaps.lie

-- how blocks lie
pub record Lie (inside : Inside) (bs : List Block) : Type 0 where
  pub blocks : blocks_of inside.slots.entries inside.items.items ≡ bs
  pub lie : AreLaid inside.slots.entries inside.blocks_end inside.loose.free (vec_capacity inside.loose.scratch)

-- the slots but for their starts are those of the blocks
pub links_shown : (inside : Inside) → IsSound inside → without_starts inside.slots.entries ≡ slots_of (graph_of inside).blocks
links_shown inside sound =
    strewn_links inside.slots.entries inside.items.items inside.blocks_end (laid_ends inside.slots.entries inside.blocks_end inside.loose.free (vec_capacity inside.loose.scratch) sound.gaps.lie) sound.gaps.within

pub limits_of : (inside : Inside) → IsSound inside → IsLimited inside
limits_of inside sound =
    let count = counts inside (graph_of inside) (laid inside sound) in
    record {
      blocks = omega (arith, count.blocks, sound.small.blocks);
      item_room = omega (arith, count.items, sound.small.items, sound.room.items);
      body_room = omega (arith, count.bodies, sound.small.procedures, sound.room.bodies);
    }

-- fields with the same lists, in which the slots lie as well
pub record SameLists (old new : Inside) : Type 0 where
  pub slots : new.slots.entries ≡ old.slots.entries
  pub items : new.items.items ≡ old.items.items
  pub blocks_end : new.blocks_end ≡ old.blocks_end
  pub gaps : new.gaps ≡ old.gaps
  pub lie : AreLaid new.slots.entries new.blocks_end new.loose.free (vec_capacity new.loose.scratch)
  pub entry : new.entry ≡ old.entry
  pub code_words : new.code_words.items ≡ old.code_words.items
  pub bodies : new.bodies.items ≡ old.bodies.items

pub kept : (old new : Inside) → IsSound old → SameLists old new → HasRoom new → IsLimited new → Shows new (graph_of old)
kept old new sound same room limits =
    let lays = laid old sound in
    laid_shows new (graph_of old)
    (record {
      blocks = rw (same.slots, same.items) lays.blocks;
      lie = same.lie;
      within = omega (arith, lays.within, same.blocks_end, ap (λ xs. length xs) same.items);
      counted = omega (arith, lays.counted, same.gaps, same.blocks_end, ap length_of_slots same.slots);
      behind = rw (same.items, same.blocks_end) lays.behind;
      entry = same.entry;
      code_words = same.code_words;
      bodies = same.bodies ∙ lays.bodies;
    })
    sound.rules room limits
