-- Blocks that move where items lie in no order: the slots move, and no item.
use Rattle.std.proofs.Common.{◌≡◌, ℕ, ◌==◌, List, [], ◌∷◌, ◌++◌, map, length, take, drop, vec_capacity, Option, Some, is_some, refl, sym, ap, ◌∙◌, subst, inl, inr, arith}
use Rattle.std.proofs.lemmas.Bool.{cases_Bool}
use Rattle.sq_arena.specs.Arena.{Arena as Listed}
use Rattle.sq_arena.specs.Entries.{value_of, ContainsKey, before, through, starting_at, behind, run, without_run, IsRun, move_run_after}
use Rattle.sq_arena.proofs.EntriesLaws.{KeepsValues-move_run_after}
use Rattle.sq_graph.specs.declared.item.Item.{Item}
use Rattle.sq_graph.specs.declared.slot.Slot.{Slot}
use Rattle.sq_graph.specs.declared.graph.Graph.TheInside.{Inside}
use Rattle.sq_graph.specs.Graph.{Block}
use Rattle.sq_graph.specs.Blocks.{named}
use Rattle.sq_graph.specs.Cursor.{length_of_slots}
use Rattle.sq_graph.specs.Rules.{IsGraph}
use Rattle.sq_graph.specs.Operations.{moved_after}
use Rattle.sq_graph.specs.Packed.{EndBy, AreDisjoint, AreLaid, blocks_of}
use Rattle.sq_graph.specs.Layout.{graph_of, IsSound}
use Rattle.sq_graph.proofs.Located.{named-append}
use Rattle.sq_graph.proofs.SlotReads.{value_of-blocks}
use Rattle.sq_graph.proofs.Strewn.{ends_append, ends_before, ends_through, ends_starting_at, ends_behind, blocks_of-append}
use Rattle.sq_graph.proofs.Disjoint.{disjoint_kept}
use Rattle.sq_graph.proofs.RunMoves.{length-moved_slots}
use Rattle.sq_graph.proofs.MoveShows.{length_moved}
use Rattle.sq_graph.proofs.Held.{Shows, laid, laid_shows, limits_of, in_no_order}

-- the blocks of some of the slots are some of the blocks
named_before : (es : List (ℕ × Slot)) (xs : List Item) (k : ℕ) → before (named (blocks_of es xs)) k ≡ named (blocks_of (before es k) xs)
named_before [] xs k = refl
named_before (e ∷ es) xs k =
    elim (cases_Bool (e.0 == k)) [
      | inl here ↦ rw here refl
      | inr apart ↦ rw apart (λ i. (e.0, record { name = e.0; items = take e.1.length (drop e.1.start xs); term = e.1.term }) ∷ named_before es xs k i)
    ]

named_through : (es : List (ℕ × Slot)) (xs : List Item) (k : ℕ) → through (named (blocks_of es xs)) k ≡ named (blocks_of (through es k) xs)
named_through [] xs k = refl
named_through (e ∷ es) xs k =
    elim (cases_Bool (e.0 == k)) [
      | inl here ↦ rw here refl
      | inr apart ↦ rw apart (λ i. (e.0, record { name = e.0; items = take e.1.length (drop e.1.start xs); term = e.1.term }) ∷ named_through es xs k i)
    ]

named_starting_at : (es : List (ℕ × Slot)) (xs : List Item) (k : ℕ) → starting_at (named (blocks_of es xs)) k ≡ named (blocks_of (starting_at es k) xs)
named_starting_at [] xs k = refl
named_starting_at (e ∷ es) xs k = elim (cases_Bool (e.0 == k)) [ inl here ↦ rw here refl | inr apart ↦ rw apart (named_starting_at es xs k) ]

named_behind : (es : List (ℕ × Slot)) (xs : List Item) (k : ℕ) → behind (named (blocks_of es xs)) k ≡ named (blocks_of (behind es k) xs)
named_behind [] xs k = refl
named_behind (e ∷ es) xs k = elim (cases_Bool (e.0 == k)) [ inl here ↦ rw here refl | inr apart ↦ rw apart (named_behind es xs k) ]

named_blocks-append : (es fs : List (ℕ × Slot)) (xs : List Item) → named (blocks_of (es ++ fs) xs) ≡ named (blocks_of es xs) ++ named (blocks_of fs xs)
named_blocks-append es fs xs = ap named (blocks_of-append es fs xs) ∙ named-append (blocks_of es xs) (blocks_of fs xs)

named_without_run : (es : List (ℕ × Slot)) (xs : List Item) (first last : ℕ) → without_run (named (blocks_of es xs)) first last ≡ named (blocks_of (without_run es first last) xs)
named_without_run es xs first last =
    ap (λ ps. ps ++ behind (starting_at (named (blocks_of es xs)) first) last) (named_before es xs first)
    ∙ ap (λ ps. named (blocks_of (before es first) xs) ++ behind ps last) (named_starting_at es xs first)
    ∙ ap (λ ps. named (blocks_of (before es first) xs) ++ ps) (named_behind (starting_at es first) xs last)
    ∙ sym (named_blocks-append (before es first) (behind (starting_at es first) last) xs)

named_run : (es : List (ℕ × Slot)) (xs : List Item) (first last : ℕ) → run (named (blocks_of es xs)) first last ≡ named (blocks_of (run es first last) xs)
named_run es xs first last =
    ap (λ ps. through ps last) (named_starting_at es xs first) ∙ named_through (starting_at es first) xs last

named_moved : (es : List (ℕ × Slot)) (xs : List Item) (first last after : ℕ) → move_run_after (named (blocks_of es xs)) first last after ≡ named (blocks_of (move_run_after es first last after) xs)
named_moved es xs first last after =
    let left = without_run es first last in
    ap (λ ps. through ps after ++ (run (named (blocks_of es xs)) first last ++ behind ps after)) (named_without_run es xs first last)
    ∙ ap (λ ps. ps ++ (run (named (blocks_of es xs)) first last ++ behind (named (blocks_of left xs)) after)) (named_through left xs after)
    ∙ ap (λ ps. named (blocks_of (through left after) xs) ++ (ps ++ behind (named (blocks_of left xs)) after)) (named_run es xs first last)
    ∙ ap (λ ps. named (blocks_of (through left after) xs) ++ (named (blocks_of (run es first last) xs) ++ ps)) (named_behind left xs after)
    ∙ ap (λ ps. named (blocks_of (through left after) xs) ++ ps) (sym (named_blocks-append (run es first last) (behind left after) xs))
    ∙ sym (named_blocks-append (through left after) (run es first last ++ behind left after) xs)

unnamed : (bs : List Block) → map (λ p. p.1) (named bs) ≡ bs
unnamed [] = refl
unnamed (b ∷ bs) = ap (λ cs. b ∷ cs) (unnamed bs)

-- the run is one of slots
pub strewn_run : (inside : Inside) (first last : ℕ) → IsRun (named (graph_of inside).blocks) first last → IsRun inside.slots.entries first last
strewn_run inside first last is_run =
    let es = inside.slots.entries in
    let xs = inside.items.items in
    record {
      starts = value_of-blocks es xs first ∙ is_run.starts;
      ends = value_of-blocks (starting_at es first) xs last ∙ ap (λ ps. is_some (value_of ps last)) (sym (named_starting_at es xs first)) ∙ is_run.ends;
    }

pub strewn_outside : (inside : Inside) (first last after : ℕ) → ContainsKey (without_run (named (graph_of inside).blocks) first last) after → ContainsKey (without_run inside.slots.entries first last) after
strewn_outside inside first last after there =
    let es = inside.slots.entries in
    let xs = inside.items.items in
    value_of-blocks (without_run es first last) xs after ∙ ap (λ ps. is_some (value_of ps after)) (sym (named_without_run es xs first last)) ∙ there

ends_moved : (es : List (ℕ × Slot)) (first last after end : ℕ) → EndBy es end → EndBy (move_run_after es first last after) end
ends_moved es first last after end ends =
    let left : EndBy (without_run es first last) end = ends_append (before es first) (behind (starting_at es first) last) end (ends_before es first end ends) (ends_behind (starting_at es first) last end (ends_starting_at es first end ends)) in
    ends_append (through (without_run es first last) after) (run es first last ++ behind (without_run es first last) after) end
    (ends_through (without_run es first last) after end left)
    (ends_append (run es first last) (behind (without_run es first last) after) end
    (ends_through (starting_at es first) last end (ends_starting_at es first end ends))
    (ends_behind (without_run es first last) after end left))

pub strewn_moves : (old : Inside) (first last after free : ℕ) (slots : Listed Slot) → IsSound old → old.loose.free ≡ Some free
    → IsRun (named (graph_of old).blocks) first last
    → slots.entries ≡ move_run_after old.slots.entries first last after → slots.spare ≡ old.slots.spare
    → IsGraph (moved_after (graph_of old) first last after)
    → Shows (record old { slots = slots }) (moved_after (graph_of old) first last after)
strewn_moves old first last after free slots sound loose is_run entries spare rules =
    let es = old.slots.entries in
    let xs = old.items.items in
    let lays = laid old sound in
    let limits = limits_of old sound in
    let there = strewn_run old first last is_run in
    let lie = in_no_order old free sound loose in
    let size : length_of_slots slots.entries ≡ length_of_slots old.slots.entries = ap length_of_slots entries ∙ length-moved_slots es first last after there in
    let ends : EndBy slots.entries free = rw entries (ends_moved es first last after free lie.0) in
    let disjoint : AreDisjoint slots.entries = rw entries (disjoint_kept es (move_run_after es first last after) (KeepsValues-move_run_after es first last after sound.gaps.distinct there) lie.1.1.1) in
    let now : AreLaid slots.entries old.blocks_end (Some free) (vec_capacity old.loose.scratch) = (ends, (lie.1.0, (omega (arith, lie.1.1.0, size), disjoint))) in
    laid_shows (record old { slots = slots }) (moved_after (graph_of old) first last after)
    (record {
      blocks = ap (λ fs. blocks_of fs xs) entries ∙ sym (unnamed (blocks_of (move_run_after es first last after) xs)) ∙ ap (λ ps. map (λ p. p.1) ps) (sym (named_moved es xs first last after));
      lie = subst (λ (o : Option ℕ). AreLaid slots.entries old.blocks_end o (vec_capacity old.loose.scratch)) (sym loose) now;
      within = lays.within;
      counted = omega (arith, lays.counted, size);
      behind = lays.behind;
      entry = refl;
      code_words = refl;
      bodies = lays.bodies;
    })
    rules
    (record { items = sound.room.items; item_room = sound.room.item_room; bodies = sound.room.bodies; body_room = sound.room.body_room })
    (record {
      blocks = omega (arith, limits.blocks, spare, ap (λ fs. length fs) entries, length_moved es first last after there);
      item_room = limits.item_room;
      body_room = limits.body_room;
    })
