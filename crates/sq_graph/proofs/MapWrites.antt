-- What the fields show after each item and each term is made another.
use Rattle.std.proofs.Common.{◌≡◌, ℕ, ◌+◌, List, [], ◌∷◌, ◌++◌, map, length, vec_capacity, refl, sym, ap, ◌∙◌, arith}
use Rattle.std.proofs.lemmas.List.{map-append, length-map}
use Rattle.sq_graph.specs.declared.item.Item.{Item}
use Rattle.sq_graph.specs.declared.item.Term.{Term}
use Rattle.sq_graph.specs.declared.slot.Slot.{Slot}
use Rattle.sq_graph.specs.declared.graph.Graph.TheInside.{Inside}
use Rattle.sq_graph.specs.Graph.{Block, Procedure, Graph}
use Rattle.sq_graph.specs.Blocks.{items_of_blocks, items_of_bodies}
use Rattle.sq_graph.specs.Rules.{IsGraph}
use Rattle.sq_graph.specs.Slots.{slots_from, bodies_from}
use Rattle.sq_graph.specs.Layout.{graph_of, Holds, HasRoom}
use Rattle.sq_graph.proofs.Held.{IsLimited, Shows, shows}
use Rattle.sq_graph.proofs.Tight.{IsTight, limited}

module _ (h : Item → Item) (t : Term → Term) where
  abbrev pub mapped_block : Block → Block
  mapped_block b = record b { items = map h b.items; term = t b.term }

  abbrev pub mapped_procedure : Procedure → Procedure
  mapped_procedure p = record p { body = map h p.body }

  abbrev pub mapped_slots : List (ℕ × Slot) → List (ℕ × Slot)
  mapped_slots es = map (λ e. (e.0, record e.1 { term = t e.1.term })) es

  pub items_of_blocks-mapped : (bs : List Block) → items_of_blocks (map mapped_block bs) ≡ map h (items_of_blocks bs)
  items_of_blocks-mapped [] = refl
  items_of_blocks-mapped (b ∷ bs) = ap (λ is. map h b.items ++ is) (items_of_blocks-mapped bs) ∙ sym (map-append h b.items (items_of_blocks bs))

  pub items_of_bodies-mapped : (ps : List Procedure) → items_of_bodies (map mapped_procedure ps) ≡ map h (items_of_bodies ps)
  items_of_bodies-mapped [] = refl
  items_of_bodies-mapped (p ∷ ps) = ap (λ is. map h p.body ++ is) (items_of_bodies-mapped ps) ∙ sym (map-append h p.body (items_of_bodies ps))

  pub items-mapped : (bs : List Block) (ps : List Procedure) → items_of_blocks (map mapped_block bs) ++ items_of_bodies (map mapped_procedure ps) ≡ map h (items_of_blocks bs ++ items_of_bodies ps)
  items-mapped bs ps =
      ap (λ is. is ++ items_of_bodies (map mapped_procedure ps)) (items_of_blocks-mapped bs)
      ∙ ap (λ is. map h (items_of_blocks bs) ++ is) (items_of_bodies-mapped ps)
      ∙ sym (map-append h (items_of_blocks bs) (items_of_bodies ps))

  pub slots_from-mapped : (n : ℕ) (bs : List Block) → slots_from n (map mapped_block bs) ≡ mapped_slots (slots_from n bs)
  slots_from-mapped n [] = refl
  slots_from-mapped n (b ∷ bs) =
      let same : length (map h b.items) ≡ length b.items = length-map b.items h in
      ap (λ k. (b.name, record { start = n; length = k; term = t b.term }) ∷ slots_from (n + k) (map mapped_block bs)) same
      ∙ ap (λ es. (b.name, record { start = n; length = length b.items; term = t b.term }) ∷ es) (slots_from-mapped (n + length b.items) bs)

  pub bodies_from-mapped : (n : ℕ) (ps : List Procedure) → bodies_from n (map mapped_procedure ps) ≡ bodies_from n ps
  bodies_from-mapped n [] = refl
  bodies_from-mapped n (p ∷ ps) =
      ap (λ k. record { link = p.link; start = n; length = k } ∷ bodies_from (n + k) (map mapped_procedure ps)) (length-map p.body h)
      ∙ ap (λ bs. record { link = p.link; start = n; length = length p.body } ∷ bs) (bodies_from-mapped (n + length p.body) ps)

  -- the same of a graph whose entry and code words are others
  pub mapped_holds : (old new : Inside) (g0 g : Graph) → Holds old g0 → HasRoom old → IsLimited old
      → new.slots.entries ≡ mapped_slots old.slots.entries → new.slots.spare ≡ old.slots.spare
      → new.items.items ≡ map h old.items.items → vec_capacity new.items ≡ vec_capacity old.items
      → new.blocks_end ≡ old.blocks_end → new.gaps ≡ old.gaps → new.loose ≡ old.loose → new.bodies ≡ old.bodies → new.item_room ≡ old.item_room → new.body_room ≡ old.body_room
      → g.blocks ≡ map mapped_block g0.blocks → g.procedures ≡ map mapped_procedure g0.procedures
      → new.entry ≡ g.entry → new.code_words.items ≡ g.code_words
      → IsGraph g → Shows new g
  mapped_holds old new g0 g holds room limits slots spare items capacity blocks_end gaps loose bodies item_room body_room blocks procedures entry code_words rules =
      let counted : length new.items.items ≡ length old.items.items = ap (λ is. length is) items ∙ length-map old.items.items h in
      shows new g
      (record {
        slots = slots ∙ ap mapped_slots holds.slots ∙ sym (slots_from-mapped 0 g0.blocks) ∙ ap (slots_from 0) (sym blocks);
        items = items ∙ ap (map h) holds.items ∙ sym (items-mapped g0.blocks g0.procedures)
            ∙ ap (λ bs. items_of_blocks bs ++ items_of_bodies (map mapped_procedure g0.procedures)) (sym blocks)
            ∙ ap (λ ps. items_of_blocks g.blocks ++ items_of_bodies ps) (sym procedures);
        blocks_end = blocks_end ∙ holds.blocks_end ∙ sym (length-map (items_of_blocks g0.blocks) h) ∙ sym (ap (λ is. length is) (items_of_blocks-mapped g0.blocks)) ∙ ap (λ bs. length (items_of_blocks bs)) (sym blocks);
        gaps = gaps ∙ holds.gaps;
        order = ap (λ l. l.free) loose ∙ holds.order;
        entry = entry;
        code_words = code_words;
        bodies = ap (λ bs. bs.items) bodies ∙ holds.bodies ∙ sym (bodies_from-mapped 0 g0.procedures) ∙ ap (bodies_from 0) (sym procedures);
      })
      rules
      (record {
        items = omega (arith, counted, room.items, item_room);
        item_room = omega (arith, room.item_room, item_room, capacity);
        bodies = omega (arith, ap (λ bs. length bs.items) bodies, room.bodies, body_room);
        body_room = omega (arith, room.body_room, body_room, ap (λ bs. vec_capacity bs) bodies);
      })
      (record {
        blocks = omega (arith, limits.blocks, spare, ap (λ es. length es) slots, length-map {B = ℕ × Slot} old.slots.entries (λ e. (e.0, record e.1 { term = t e.1.term })));
        item_room = omega (arith, limits.item_room, item_room);
        body_room = omega (arith, limits.body_room, body_room);
      })

  pub mapped_shows : (old new : Inside) (g : Graph) → IsTight old
      → new.slots.entries ≡ mapped_slots old.slots.entries → new.slots.spare ≡ old.slots.spare
      → new.items.items ≡ map h old.items.items → vec_capacity new.items ≡ vec_capacity old.items
      → new.blocks_end ≡ old.blocks_end → new.gaps ≡ old.gaps → new.loose ≡ old.loose → new.bodies ≡ old.bodies → new.item_room ≡ old.item_room → new.body_room ≡ old.body_room
      → g.blocks ≡ map mapped_block (graph_of old).blocks → g.procedures ≡ map mapped_procedure (graph_of old).procedures
      → new.entry ≡ g.entry → new.code_words.items ≡ g.code_words
      → IsGraph g → Shows new g
  mapped_shows old new g tight = mapped_holds old new (graph_of old) g tight.holds tight.room (limited old tight)
