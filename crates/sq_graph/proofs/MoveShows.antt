-- What the fields show after a run of blocks moves.
use Rattle.std.proofs.Common.{◌≡◌, ℕ, ◌+◌, ◌≤◌, ◌<◌, ◌^◌, nat_le, true, List, [], ◌∷◌, ◌++◌, map, length, vec_capacity, Vec, Global, None, IsSome, refl, sym, ap, ◌∙◌, inl, inr, arith, length-append, append_assoc}
use Rattle.std.proofs.lemmas.Bool.{le-leb}
use Rattle.std.proofs.lemmas.List.{append-nil, nil_from_length}
use Rattle.std.proofs.lemmas.Bool.Decides.{leb_tells}
use Rattle.sq_arena.specs.Arena.{Arena as Listed}
use Rattle.sq_arena.specs.Entries.{HasDistinctKeys, value_of, ContainsKey, before, through, starting_at, behind, run, without_run, IsRun, move_run_after}
use Rattle.sq_arena.proofs.EntriesLemmas.{shape_of, through-behind, through-before}
use Rattle.sq_arena.proofs.EntriesLaws.{before-append}
use Rattle.sq_graph.specs.declared.item.Item.{Item}
use Rattle.sq_graph.specs.declared.slot.Slot.{Slot}
use Rattle.sq_graph.specs.declared.graph.Graph.TheInside.{Inside}
use Rattle.sq_graph.specs.Graph.{Block}
use Rattle.sq_graph.specs.Blocks.{named, items_of_blocks, items_of_bodies}
use Rattle.sq_graph.specs.Rules.{IsGraph}
use Rattle.sq_graph.specs.Operations.{moved_after}
use Rattle.sq_graph.specs.Slots.{slots_from}
use Rattle.sq_graph.specs.Cursor.{renumbered, length_of_slots}
use Rattle.sq_graph.specs.Numbered.{IsNumbered}
use Rattle.sq_graph.specs.Pieces.{exchanged, moved_piece}
use Rattle.sq_graph.specs.Layout.{graph_of}
use Rattle.sq_graph.proofs.Located.{named-append}
use Rattle.sq_graph.proofs.SlotReads.{block_at}
use Rattle.sq_graph.proofs.Sizes.{sizes}
use Rattle.sq_graph.proofs.Held.{Shows, shows}
use Rattle.sq_graph.proofs.Tight.{IsTight, limited}
use Rattle.sq_graph.proofs.ItemWrites.{Placed, renumbered-slots, length_of_slots-slots}
use Rattle.sq_graph.proofs.Laid.{length-renumbered}
use Rattle.sq_graph.proofs.BlockMoves.{like_slots, like_run, like_moved, like_numbered, pair_items, pair_items-append, pair_items-is, pair_items-named, through-in, behind-in, through-out, behind-out, exchanged_pieces}
use Rattle.sq_graph.proofs.RunMoves.{upto_last, behind_run, some_or_none}

-- where a block ends: behind the items of all blocks up to it
pub record Ends (inside : Inside) (name : ℕ) (slot : Slot) : Type 0 where
  pub start_is : slot.start ≡ length (pair_items (before (named (graph_of inside).blocks) name))
  pub end_is : slot.start + slot.length ≡ length (pair_items (through (named (graph_of inside).blocks) name))

pub ends_at : (inside : Inside) (name : ℕ) (slot : Slot) → Placed inside name slot → Ends inside name slot
ends_at inside name slot p =
    let bs = (graph_of inside).blocks in
    let at = p.at in
    let ahead : before (named bs) name ≡ named at.front =
    ap (λ cs. before (named cs) name) at.whole
    ∙ ap (λ ps. before ps name) (named-append at.front (at.block ∷ at.back))
    ∙ ap (λ k. before (named at.front ++ (k, at.block) ∷ named at.back) name) at.has_name
    ∙ before-append (named at.front) (named at.back) name at.block at.ahead in
    let upto : through (named bs) name ≡ before (named bs) name ++ (name, at.block) ∷ [] = through-before (named bs) name at.block (block_at bs name at) in
    let front : length (pair_items (before (named bs) name)) ≡ slot.start = ap (λ ps. length (pair_items ps)) ahead ∙ ap (λ is. length is) (pair_items-named at.front) ∙ sym p.start_is in
    let one : pair_items ((name, at.block) ∷ []) ≡ at.block.items = append-nil at.block.items in
    record {
      start_is = sym front;
      end_is = omega (arith, front, p.length_is, ap (λ ps. length (pair_items ps)) upto, ap (λ is. length is) (pair_items-append (before (named bs) name) ((name, at.block) ∷ [])), length-append (pair_items (before (named bs) name)) (pair_items ((name, at.block) ∷ [])), ap (λ is. length is) one);
    }

-- the items of the blocks after the move, and where the pieces lie
pub record Moves (ps : List (ℕ × Block)) (first last after : ℕ) (rest : List Item) : Type 0 where
  pub start : ℕ
  pub end : ℕ
  pub place : ℕ
  pub start_is : start ≡ length (pair_items (before ps first))
  pub end_is : end ≡ length (pair_items (through ps last))
  pub place_is : place ≡ length (pair_items (through ps after))
  pub piece : start ≤ end
  pub outside : start < place → end ≤ place
  pub items : moved_piece (pair_items ps ++ rest) start end place ≡ pair_items (move_run_after ps first last after) ++ rest

le_true : (m n : ℕ) → m ≤ n → nat_le m n ≡ true
le_true m n le = le-leb m n le

moves_behind : (ps : List (ℕ × Block)) (first last after : ℕ) (rest : List Item) → HasDistinctKeys ps → IsRun ps first last → ContainsKey (without_run ps first last) after → IsSome (value_of (before ps first) after) → through ps last ≡ before ps first ++ run ps first last → Moves ps first last after rest
moves_behind ps first last after rest distinct is_run there some upto =
    let shape = shape_of ps first last is_run in
    let A = before ps first in
    let R = run ps first last in
    let C = behind (starting_at ps first) last in
    let A1 = through (before ps first) after in
    let A2 = behind (before ps first) after in
    let a : pair_items A1 ++ pair_items A2 ≡ pair_items A = sym (pair_items-append A1 A2) ∙ ap pair_items (through-behind A after) in
    let place : through ps after ≡ A1 = ap (λ xs. through xs after) shape.whole ∙ through-in A (R ++ C) after some in
    let la : length (pair_items A) ≡ length (pair_items A1) + length (pair_items A2) = omega (arith, ap (λ is. length is) a, length-append (pair_items A1) (pair_items A2)) in
    let ar : length (pair_items (through ps last)) ≡ length (pair_items A) + length (pair_items R) =
    omega (arith, ap (λ xs. length (pair_items xs)) upto, ap (λ is. length is) (pair_items-append A R), length-append (pair_items A) (pair_items R)) in
    let old : pair_items ps ++ rest ≡ pair_items A1 ++ (pair_items A2 ++ (pair_items R ++ (pair_items C ++ rest))) =
    ap (λ is. is ++ rest) (ap pair_items shape.whole ∙ pair_items-append A (R ++ C) ∙ ap (λ is. pair_items A ++ is) (pair_items-append R C) ∙ ap (λ is. is ++ (pair_items R ++ pair_items C)) (sym a))
    ∙ append_assoc (pair_items A1 ++ pair_items A2) (pair_items R ++ pair_items C) rest
    ∙ append_assoc (pair_items A1) (pair_items A2) ((pair_items R ++ pair_items C) ++ rest)
    ∙ ap (λ is. pair_items A1 ++ (pair_items A2 ++ is)) (append_assoc (pair_items R) (pair_items C) rest) in
    let new : pair_items (move_run_after ps first last after) ++ rest ≡ pair_items A1 ++ (pair_items R ++ (pair_items A2 ++ (pair_items C ++ rest))) =
    ap (λ is. is ++ rest)
    (pair_items-append (through (A ++ C) after) (R ++ behind (A ++ C) after)
    ∙ ap (λ xs. pair_items xs ++ pair_items (R ++ behind (A ++ C) after)) (through-in A C after some)
    ∙ ap (λ xs. pair_items A1 ++ pair_items (R ++ xs)) (behind-in A C after some)
    ∙ ap (λ is. pair_items A1 ++ is) (pair_items-append R (A2 ++ C) ∙ ap (λ is. pair_items R ++ is) (pair_items-append A2 C)))
    ∙ append_assoc (pair_items A1) (pair_items R ++ (pair_items A2 ++ pair_items C)) rest
    ∙ ap (λ is. pair_items A1 ++ is) (append_assoc (pair_items R) (pair_items A2 ++ pair_items C) rest ∙ ap (λ is. pair_items R ++ is) (append_assoc (pair_items A2) (pair_items C) rest)) in
    let p : length (pair_items (through ps after)) ≡ length (pair_items A1) = ap (λ xs. length (pair_items xs)) place in
    let first_case : nat_le (length (pair_items (through ps after))) (length (pair_items A)) ≡ true = le_true (length (pair_items (through ps after))) (length (pair_items A)) (omega (arith, p, la)) in
    record {
      start = length (pair_items A);
      end = length (pair_items (through ps last));
      place = length (pair_items (through ps after));
      start_is = refl;
      end_is = refl;
      place_is = refl;
      piece = omega (arith, ar);
      outside = λ above. absurd (omega (arith, above, p, la));
      items = rw first_case
          (ap (λ is. exchanged is (length (pair_items (through ps after))) (length (pair_items A)) (length (pair_items (through ps last)))) old
          ∙ exchanged_pieces (pair_items A1) (pair_items A2) (pair_items R) (pair_items C ++ rest) (length (pair_items (through ps after))) (length (pair_items A)) (length (pair_items (through ps last))) p (omega (arith, p, la)) ar
          ∙ sym new);
    }

moves_ahead : (ps : List (ℕ × Block)) (first last after : ℕ) (rest : List Item) → HasDistinctKeys ps → IsRun ps first last → ContainsKey (without_run ps first last) after → value_of (before ps first) after ≡ None → through ps last ≡ before ps first ++ run ps first last → Moves ps first last after rest
moves_ahead ps first last after rest distinct is_run there none upto =
    let shape = shape_of ps first last is_run in
    let A = before ps first in
    let R = run ps first last in
    let C = behind (starting_at ps first) last in
    let C1 = through (behind (starting_at ps first) last) after in
    let C2 = behind (behind (starting_at ps first) last) after in
    let not_ahead : value_of (A ++ R) after ≡ None = (behind_run ps first last after distinct is_run there none).not_ahead in
    let c : pair_items C1 ++ pair_items C2 ≡ pair_items C = sym (pair_items-append C1 C2) ∙ ap pair_items (through-behind C after) in
    let place : through ps after ≡ (A ++ R) ++ C1 = ap (λ xs. through xs after) (shape.whole ∙ sym (append_assoc A R C)) ∙ through-out (A ++ R) C after not_ahead in
    let ar : length (pair_items (through ps last)) ≡ length (pair_items A) + length (pair_items R) =
    omega (arith, ap (λ xs. length (pair_items xs)) upto, ap (λ is. length is) (pair_items-append A R), length-append (pair_items A) (pair_items R)) in
    let p : length (pair_items (through ps after)) ≡ length (pair_items A) + length (pair_items R) + length (pair_items C1) =
    omega (arith, ap (λ xs. length (pair_items xs)) place, ap (λ is. length is) (pair_items-append (A ++ R) C1), length-append (pair_items (A ++ R)) (pair_items C1), ap (λ is. length is) (pair_items-append A R), length-append (pair_items A) (pair_items R)) in
    let old : pair_items ps ++ rest ≡ pair_items A ++ (pair_items R ++ (pair_items C1 ++ (pair_items C2 ++ rest))) =
    ap (λ is. is ++ rest) (ap pair_items shape.whole ∙ pair_items-append A (R ++ C) ∙ ap (λ is. pair_items A ++ is) (pair_items-append R C ∙ ap (λ is. pair_items R ++ is) (sym c)))
    ∙ append_assoc (pair_items A) (pair_items R ++ (pair_items C1 ++ pair_items C2)) rest
    ∙ ap (λ is. pair_items A ++ is) (append_assoc (pair_items R) (pair_items C1 ++ pair_items C2) rest ∙ ap (λ is. pair_items R ++ is) (append_assoc (pair_items C1) (pair_items C2) rest)) in
    let new : pair_items (move_run_after ps first last after) ++ rest ≡ pair_items A ++ (pair_items C1 ++ (pair_items R ++ (pair_items C2 ++ rest))) =
    ap (λ is. is ++ rest)
    (pair_items-append (through (A ++ C) after) (R ++ behind (A ++ C) after)
    ∙ ap (λ xs. pair_items xs ++ pair_items (R ++ behind (A ++ C) after)) (through-out A C after none)
    ∙ ap (λ xs. pair_items (A ++ C1) ++ pair_items (R ++ xs)) (behind-out A C after none)
    ∙ ap (λ is. is ++ pair_items (R ++ C2)) (pair_items-append A C1)
    ∙ ap (λ is. (pair_items A ++ pair_items C1) ++ is) (pair_items-append R C2))
    ∙ append_assoc (pair_items A ++ pair_items C1) (pair_items R ++ pair_items C2) rest
    ∙ append_assoc (pair_items A) (pair_items C1) ((pair_items R ++ pair_items C2) ++ rest)
    ∙ ap (λ is. pair_items A ++ (pair_items C1 ++ is)) (append_assoc (pair_items R) (pair_items C2) rest) in
    record {
      start = length (pair_items A);
      end = length (pair_items (through ps last));
      place = length (pair_items (through ps after));
      start_is = refl;
      end_is = refl;
      place_is = refl;
      piece = omega (arith, ar);
      outside = λ above. omega (arith, ar, p);
      items = elim (leb_tells (length (pair_items (through ps after))) (length (pair_items A))) [
        | inr above ↦ rw above.0
            (ap (λ is. exchanged is (length (pair_items A)) (length (pair_items (through ps last))) (length (pair_items (through ps after)))) old
            ∙ exchanged_pieces (pair_items A) (pair_items R) (pair_items C1) (pair_items C2 ++ rest) (length (pair_items A)) (length (pair_items (through ps last))) (length (pair_items (through ps after))) refl ar (omega (arith, p, ar))
            ∙ sym new)
        | inl below ↦
            let no_run : pair_items R ≡ [] = nil_from_length (pair_items R) (omega (arith, below.1, p)) in
            let no_middle : pair_items C1 ≡ [] = nil_from_length (pair_items C1) (omega (arith, below.1, p)) in
            let plain : pair_items ps ++ rest ≡ pair_items A ++ ([] ++ ([] ++ (pair_items C2 ++ rest))) =
            old ∙ ap (λ is. pair_items A ++ (is ++ (pair_items C1 ++ (pair_items C2 ++ rest)))) no_run ∙ ap (λ is. pair_items A ++ ([] ++ (is ++ (pair_items C2 ++ rest)))) no_middle in
            let same : pair_items (move_run_after ps first last after) ++ rest ≡ pair_items A ++ ([] ++ ([] ++ (pair_items C2 ++ rest))) =
            new ∙ ap (λ is. pair_items A ++ (is ++ (pair_items R ++ (pair_items C2 ++ rest)))) no_middle ∙ ap (λ is. pair_items A ++ ([] ++ (is ++ (pair_items C2 ++ rest)))) no_run in
            let np : length (pair_items (through ps after)) ≡ length (pair_items A) = omega (arith, below.1, p) in
            let ns : length (pair_items A) ≡ length (pair_items (through ps after)) + 0 = omega (arith, np) in
            let ne : length (pair_items (through ps last)) ≡ length (pair_items A) + 0 = omega (arith, below.1, p, ar) in
            rw below.0
            (ap (λ is. exchanged is (length (pair_items (through ps after))) (length (pair_items A)) (length (pair_items (through ps last)))) plain
            ∙ exchanged_pieces (pair_items A) [] [] (pair_items C2 ++ rest) (length (pair_items (through ps after))) (length (pair_items A)) (length (pair_items (through ps last))) np ns ne
            ∙ sym same)
      ];
    }

pub moves : (ps : List (ℕ × Block)) (first last after : ℕ) (rest : List Item) → HasDistinctKeys ps → IsRun ps first last → ContainsKey (without_run ps first last) after → Moves ps first last after rest
moves ps first last after rest distinct is_run there =
    elim (some_or_none (value_of (before ps first) after)) [
      | inl some ↦ moves_behind ps first last after rest distinct is_run there some (upto_last ps first last distinct is_run)
      | inr none ↦ moves_ahead ps first last after rest distinct is_run there none (upto_last ps first last distinct is_run)
    ]

pub length_moved : (es : List (ℕ × Slot)) (first last after : ℕ) → IsRun es first last → length (move_run_after es first last after) ≡ length es
length_moved es first last after is_run =
    let A = before es first in
    let R = run es first last in
    let C = behind (starting_at es first) last in
    omega (
      arith,
      ap (λ xs. length xs) (shape_of es first last is_run).whole,
      length-append A (R ++ C),
      length-append R C,
      length-append (through (A ++ C) after) (R ++ behind (A ++ C) after),
      length-append R (behind (A ++ C) after),
      ap (λ xs. length xs) (through-behind (A ++ C) after),
      length-append (through (A ++ C) after) (behind (A ++ C) after),
      length-append A C,
    )

pub move_shows : (old : Inside) (first last after start end place : ℕ) (slots : Listed Slot) (items : Vec Item Global) → IsTight old
    → IsRun (named (graph_of old).blocks) first last → ContainsKey (without_run (named (graph_of old).blocks) first last) after
    → start ≡ length (pair_items (before (named (graph_of old).blocks) first)) → end ≡ length (pair_items (through (named (graph_of old).blocks) last)) → place ≡ length (pair_items (through (named (graph_of old).blocks) after))
    → slots.entries ≡ renumbered 0 (move_run_after old.slots.entries first last after) → slots.spare ≡ old.slots.spare
    → items.items ≡ moved_piece old.items.items start end place → vec_capacity items ≡ vec_capacity old.items → length items.items ≡ length old.items.items
    → IsGraph (moved_after (graph_of old) first last after)
    → Shows (record old { slots = slots; items = items }) (moved_after (graph_of old) first last after)
move_shows old first last after start end place slots items tight is_run there start_is end_is place_is entries spare is capacity counted rules =
    let g = graph_of old in
    let ps = named g.blocks in
    let qs = move_run_after (named g.blocks) first last after in
    let limits = limited old tight in
    let m = moves (named g.blocks) first last after (items_of_bodies g.procedures) tight.rules.distinct is_run there in
    let like = like_moved first last after (slots_from 0 g.blocks) (named g.blocks) (like_slots 0 g.blocks) in
    let run_there : IsRun old.slots.entries first last = rw tight.holds.slots (like_run first last (slots_from 0 g.blocks) (named g.blocks) (like_slots 0 g.blocks) is_run) in
    let many = length_moved old.slots.entries first last after run_there in
    let whole : old.items.items ≡ pair_items (named g.blocks) ++ items_of_bodies g.procedures = tight.holds.items ∙ ap (λ is. is ++ items_of_bodies g.procedures) (sym (pair_items-named g.blocks)) in
    let all : items.items ≡ items_of_blocks (map (λ p. p.1) qs) ++ items_of_bodies g.procedures =
    is ∙ ap (λ xs. moved_piece xs start end place) whole
    ∙ ap (λ n. moved_piece (pair_items ps ++ items_of_bodies g.procedures) n end place) (start_is ∙ sym m.start_is)
    ∙ ap (λ n. moved_piece (pair_items ps ++ items_of_bodies g.procedures) m.start n place) (end_is ∙ sym m.end_is)
    ∙ ap (λ n. moved_piece (pair_items ps ++ items_of_bodies g.procedures) m.start m.end n) (place_is ∙ sym m.place_is)
    ∙ m.items
    ∙ ap (λ is. is ++ items_of_bodies g.procedures) (sym (pair_items-is qs)) in
    shows (record old { slots = slots; items = items }) (moved_after g first last after)
    (record {
      slots = entries ∙ ap (λ es. renumbered 0 (move_run_after es first last after)) tight.holds.slots ∙ like_numbered 0 (move_run_after (slots_from 0 g.blocks) first last after) qs like;
      items = all;
      blocks_end = omega (arith, tight.holds.blocks_end, counted, ap (λ xs. length xs) all, ap (λ xs. length xs) tight.holds.items, length-append (items_of_blocks (map (λ p. p.1) qs)) (items_of_bodies g.procedures), length-append (items_of_blocks g.blocks) (items_of_bodies g.procedures));
      gaps = tight.holds.gaps;
      order = tight.holds.order;
      entry = tight.holds.entry;
      code_words = tight.holds.code_words;
      bodies = tight.holds.bodies;
    })
    rules
    (record {
      items = omega (arith, counted, tight.room.items);
      item_room = omega (arith, capacity, tight.room.item_room);
      bodies = tight.room.bodies;
      body_room = tight.room.body_room;
    })
    (record { blocks = omega (arith, limits.blocks, spare, many, ap (λ es. length es) entries, length-renumbered 0 (move_run_after old.slots.entries first last after)); item_room = limits.item_room; body_room = limits.body_room })

-- the slots have their starts, and as many items as the vector at most
pub slots_numbered : (old : Inside) → IsTight old → IsNumbered 0 old.slots.entries
slots_numbered old tight =
    ap (renumbered 0) tight.holds.slots ∙ renumbered-slots 0 0 (graph_of old).blocks ∙ sym tight.holds.slots

pub slots_fit : (old : Inside) → IsTight old → length_of_slots old.slots.entries < 2 ^ 32
slots_fit old tight =
    let g = graph_of old in
    let size = sizes old tight.sound in
    omega (arith, ap length_of_slots tight.holds.slots, length_of_slots-slots 0 g.blocks, ap (λ xs. length xs) tight.holds.items, length-append (items_of_blocks g.blocks) (items_of_bodies g.procedures), size.items, size.item_room)
