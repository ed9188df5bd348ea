-- The fields that are made of parts show the graph of the parts.
use Rattle.std.proofs.Common.{◌≡◌, ℕ, suc, ◌+◌, ◌≤◌, List, [], ◌∷◌, ◌++◌, length, take, drop, refl, sym, ap, ◌∙◌, arith, length-append, length-drop, None}
use Rattle.std.proofs.lemmas.List.{length-take-le, drop-drop, take-append-drop, nil_from_length, append_assoc}
use Rattle.std.proofs.lemmas.List.Sums.{sum_by-cons}
use Rattle.sq_arena.specs.Entries.{at_positions}
use Rattle.sq_arena.proofs.Positions.{length-at_positions}
use Rattle.sq_graph.specs.declared.item.Item.{Item}
use Rattle.sq_graph.specs.declared.parts.BlockPart.{BlockPart}
use Rattle.sq_graph.specs.declared.parts.ProcedurePart.{ProcedurePart}
use Rattle.sq_graph.specs.declared.parts.CodeRef.{CodeRef}
use Rattle.sq_graph.specs.declared.graph.Graph.TheInside.{Inside}
use Rattle.sq_graph.specs.Blocks.{items_of_blocks, items_of_bodies, all_items}
use Rattle.sq_graph.specs.Rules.{IsGraph}
use Rattle.sq_graph.specs.Room.{IsSmall, count_of}
use Rattle.sq_graph.specs.Parts.{blocks_of_parts, procedures_of_parts, length_of_blocks, length_of_bodies, LengthsFit, graph_of_parts}
use Rattle.sq_graph.specs.PartSlots.{part_slots, part_bodies}
use Rattle.sq_graph.specs.Slots.{slots_from, bodies_from}
use Rattle.sq_graph.proofs.Held.{Shows, shows}

abbrev size_of : BlockPart → ℕ
size_of part = part.length

abbrev body_size : ProcedurePart → ℕ
body_size part = part.length

-- the items of the blocks and the bodies of parts are the items
items_of_parts : (j : ℕ) (ps : List BlockPart) (items : List Item) → length_of_blocks ps ≤ length items → items_of_blocks (blocks_of_parts j ps items) ++ drop (length_of_blocks ps) items ≡ items
items_of_parts j [] items fits = refl
items_of_parts j (p ∷ ps) items fits =
    let total = sum_by-cons size_of p ps in
    let rest = items_of_parts (j + 1) ps (drop p.length items) (omega (arith, fits, total, length-drop p.length items)) in
    let back : drop (length_of_blocks (p ∷ ps)) items ≡ drop (length_of_blocks ps) (drop p.length items) = ap (λ n. drop n items) total ∙ sym (drop-drop (length_of_blocks ps) p.length items) in
    append_assoc (take p.length items) (items_of_blocks (blocks_of_parts (j + 1) ps (drop p.length items))) (drop (length_of_blocks (p ∷ ps)) items)
    ∙ ap (λ ys. take p.length items ++ (items_of_blocks (blocks_of_parts (j + 1) ps (drop p.length items)) ++ ys)) back
    ∙ ap (λ ys. take p.length items ++ ys) rest
    ∙ take-append-drop p.length items

bodies_of_parts : (qs : List ProcedurePart) (items : List Item) → length_of_bodies qs ≡ length items → items_of_bodies (procedures_of_parts qs items) ≡ items
bodies_of_parts [] items fits = sym (nil_from_length items (sym fits))
bodies_of_parts (q ∷ qs) items fits =
    let total = sum_by-cons body_size q qs in
    ap (λ ys. take q.length items ++ ys) (bodies_of_parts qs (drop q.length items) (omega (arith, fits, total, length-drop q.length items)))
    ∙ take-append-drop q.length items

pub all_items_of_parts : (ps : List BlockPart) (items : List Item) (entry : ℕ) (ws : List CodeRef) (qs : List ProcedurePart) → LengthsFit ps items qs → all_items (graph_of_parts ps items entry ws qs) ≡ items
all_items_of_parts ps items entry ws qs fits =
    ap (λ ys. items_of_blocks (blocks_of_parts 0 ps items) ++ ys) (bodies_of_parts qs (drop (length_of_blocks ps) items) (omega (arith, fits, length-drop (length_of_blocks ps) items)))
    ∙ items_of_parts 0 ps items (omega (arith, fits))

pub length-blocks_of_parts : (j : ℕ) (ps : List BlockPart) (items : List Item) → length (blocks_of_parts j ps items) ≡ length ps
length-blocks_of_parts j [] items = refl
length-blocks_of_parts j (p ∷ ps) items = ap suc (length-blocks_of_parts (j + 1) ps (drop p.length items))

pub length-procedures_of_parts : (qs : List ProcedurePart) (items : List Item) → length (procedures_of_parts qs items) ≡ length qs
length-procedures_of_parts [] items = refl
length-procedures_of_parts (q ∷ qs) items = ap suc (length-procedures_of_parts qs (drop q.length items))

pub length-part_slots : (n : ℕ) (ps : List BlockPart) → length (part_slots n ps) ≡ length ps
length-part_slots n [] = refl
length-part_slots n (p ∷ ps) = ap suc (length-part_slots (n + p.length) ps)

pub length-part_bodies : (n : ℕ) (qs : List ProcedurePart) → length (part_bodies n qs) ≡ length qs
length-part_bodies n [] = refl
length-part_bodies n (q ∷ qs) = ap suc (length-part_bodies (n + q.length) qs)

-- the slots, each under its position
slots_of_parts : (j start : ℕ) (ps : List BlockPart) (items : List Item) → length_of_blocks ps ≤ length items → at_positions j (part_slots start ps) ≡ slots_from start (blocks_of_parts j ps items)
slots_of_parts j start [] items fits = refl
slots_of_parts j start (p ∷ ps) items fits =
    let total = sum_by-cons size_of p ps in
    let size : length (take p.length items) ≡ p.length = length-take-le p.length items (omega (arith, fits, total)) in
    ap (λ es. (j, record { start = start; length = p.length; term = p.term }) ∷ es) (slots_of_parts (j + 1) (start + p.length) ps (drop p.length items) (omega (arith, fits, total, length-drop p.length items)))
    ∙ ap (λ n. (j, record { start = start; length = n; term = p.term }) ∷ slots_from (start + n) (blocks_of_parts (j + 1) ps (drop p.length items))) (sym size)

part_bodies-procedures : (n : ℕ) (qs : List ProcedurePart) (items : List Item) → length_of_bodies qs ≤ length items → part_bodies n qs ≡ bodies_from n (procedures_of_parts qs items)
part_bodies-procedures n [] items fits = refl
part_bodies-procedures n (q ∷ qs) items fits =
    let total = sum_by-cons body_size q qs in
    let size : length (take q.length items) ≡ q.length = length-take-le q.length items (omega (arith, fits, total)) in
    ap (λ bs. record { link = q.link; start = n; length = q.length } ∷ bs) (part_bodies-procedures (n + q.length) qs (drop q.length items) (omega (arith, fits, total, length-drop q.length items)))
    ∙ ap (λ k. record { link = q.link; start = n; length = k } ∷ bodies_from (n + k) (procedures_of_parts qs (drop q.length items))) (sym size)

pub parts_show : (ps : List BlockPart) (items : List Item) (entry : ℕ) (ws : List CodeRef) (qs : List ProcedurePart) (new : Inside)
    → LengthsFit ps items qs → IsGraph (graph_of_parts ps items entry ws qs) → IsSmall (count_of (graph_of_parts ps items entry ws qs))
    → new.slots.entries ≡ at_positions 0 (part_slots 0 ps) → new.slots.spare ≡ 0
    → new.items.items ≡ items
    → new.blocks_end ≡ length_of_blocks ps
    → new.gaps ≡ 0
    → new.loose.free ≡ None
    → new.entry ≡ entry
    → new.code_words.items ≡ ws
    → new.bodies.items ≡ part_bodies 0 qs
    → new.item_room ≡ length new.items.items → new.body_room ≡ length new.bodies.items
    → Shows new (graph_of_parts ps items entry ws qs)
parts_show ps items entry ws qs new fits rules small slots spare items_are blocks_end gaps order entry_is words bodies item_room body_room =
    let g = graph_of_parts ps items entry ws qs in
    let enough : length_of_blocks ps ≤ length items = omega (arith, fits) in
    let rest : length_of_bodies qs ≡ length (drop (length_of_blocks ps) items) = omega (arith, fits, length-drop (length_of_blocks ps) items) in
    let all = all_items_of_parts ps items entry ws qs fits in
    let blocks_long : length (items_of_blocks (blocks_of_parts 0 ps items)) ≡ length_of_blocks ps =
    omega (arith, ap (λ is. length is) (items_of_parts 0 ps items enough), length-append (items_of_blocks (blocks_of_parts 0 ps items)) (drop (length_of_blocks ps) items), length-drop (length_of_blocks ps) items, fits) in
    shows new g
    (record {
      slots = slots ∙ slots_of_parts 0 0 ps items enough;
      items = items_are ∙ sym all;
      blocks_end = blocks_end ∙ sym blocks_long;
      gaps = gaps;
      order = order;
      entry = entry_is;
      code_words = words;
      bodies = bodies ∙ part_bodies-procedures 0 qs (drop (length_of_blocks ps) items) (omega (arith, rest));
    })
    rules
    (record {
      items = omega (arith, item_room);
      item_room = omega (arith, item_room, new.items.ok.0, new.items.ok.1);
      bodies = omega (arith, body_room);
      body_room = omega (arith, body_room, new.bodies.ok.0, new.bodies.ok.1);
    })
    (record {
      blocks = omega (arith, spare, small.blocks, length-blocks_of_parts 0 ps items, ap (λ es. length es) slots, length-at_positions 0 (part_slots 0 ps), length-part_slots 0 ps);
      item_room = omega (arith, item_room, small.items, ap (λ is. length is) items_are, ap (λ is. length is) all);
      body_room = omega (arith, body_room, small.procedures, ap (λ bs. length bs) bodies, length-part_bodies 0 qs, length-procedures_of_parts qs (drop (length_of_blocks ps) items));
    })
