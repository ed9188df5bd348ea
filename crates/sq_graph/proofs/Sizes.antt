-- The numbers in the fields of a graph.
use Rattle.std.proofs.Common.{◌≡◌, ℕ, ◌+◌, ◌≤◌, ◌<◌, ◌^◌, List, [], ◌∷◌, length, Some, IsSome, refl, sym, ap, ◌∙◌, arith, ◌++◌}
use Rattle.sq_arena.specs.Entries.{value_of, first_key}
use Rattle.std.proofs.lemmas.List.Elements.{All-head}
use Rattle.sq_graph.specs.declared.graph.Graph.TheInside.{Inside}
use Rattle.sq_graph.specs.declared.parts.Room.{Room}
use Rattle.sq_graph.specs.Graph.{Block, Graph}
use Rattle.sq_graph.specs.Blocks.{named, HasBlock, first_of, all_items}
use Rattle.sq_graph.specs.Uses.{code_word_uses, terms_uses, items_uses}
use Rattle.sq_graph.specs.Rules.{IsGraph}
use Rattle.sq_graph.specs.Layout.{graph_of, IsSound}
use Rattle.sq_graph.proofs.Held.{laid, counts, limits_of}

pub record HasSizes (inside : Inside) : Type 0 where
  pub blocks : length inside.slots.entries + inside.slots.spare < 2 ^ 29
  pub items : length inside.items.items ≤ inside.item_room
  pub item_room : inside.item_room < 2 ^ 29
  pub bodies : length inside.bodies.items ≤ inside.body_room
  pub body_room : inside.body_room < 2 ^ 29
  pub block_count : length (graph_of inside).blocks ≡ length inside.slots.entries
  pub item_count : length (all_items (graph_of inside)) + inside.gaps ≡ length inside.items.items
  pub counted : length (graph_of inside).procedures ≡ length inside.bodies.items
  pub blocks_end : inside.blocks_end ≤ length inside.items.items
  pub gaps : inside.gaps ≤ inside.blocks_end

pub sizes : (inside : Inside) → IsSound inside → HasSizes inside
sizes inside sound =
    let count = counts inside (graph_of inside) (laid inside sound) in
    let limits = limits_of inside sound in
    record {
      blocks = limits.blocks;
      items = sound.room.items;
      item_room = limits.item_room;
      bodies = sound.room.bodies;
      body_room = limits.body_room;
      block_count = sym count.blocks;
      item_count = count.items;
      counted = sym count.bodies;
      blocks_end = sound.gaps.within;
      gaps = omega (arith, sound.gaps.counted);
    }

first_some : (bs : List Block) (name : ℕ) → IsSome (value_of (named bs) name) → (first : ℕ) × (first_key (named bs) ≡ Some first)
first_some [] name some = absurd (cc)
first_some (b ∷ rest) name some = (b.name, refl)

-- the entry is a block, so there is a first one
pub has_first : (g : Graph) → IsGraph g → (first : ℕ) × (first_of g ≡ Some first)
has_first g rules =
    first_some g.blocks g.entry (All-head (HasBlock g) g.entry (code_word_uses g.code_words ++ (terms_uses g.blocks ++ items_uses (all_items g))) rules.named_all)

pub same_room : (a b : Room) → a.blocks ≡ b.blocks → a.items ≡ b.items → a.procedures ≡ b.procedures → a ≡ b
same_room a b blocks items procedures =
    ap (λ n. record a { blocks = n }) blocks ∙ ap (λ n. record b { items = n; procedures = a.procedures }) items ∙ ap (λ n. record b { procedures = n }) procedures
