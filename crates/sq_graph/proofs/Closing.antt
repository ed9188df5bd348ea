-- What is left of the blocks once their items are moved together.
use Rattle.std.proofs.Common.{◌≡◌, ℕ, ◌+◌, List, [], ◌++◌, length, drop, Vec, Global, vec_capacity, Option, None, refl, sym, ap, ◌∙◌, subst, arith, length-append, length-drop}
use Rattle.std.proofs.lemmas.List.{drop_at}
use Rattle.sq_arena.specs.Arena.{Arena as Listed}
use Rattle.sq_arena.specs.Entries.{keys, first_key}
use Rattle.sq_graph.specs.declared.item.Item.{Item}
use Rattle.sq_graph.specs.declared.slot.Slot.{Slot}
use Rattle.sq_graph.specs.declared.loose.Loose.{Loose}
use Rattle.sq_graph.specs.Graph.{Block}
use Rattle.sq_graph.specs.Blocks.{items_of_blocks}
use Rattle.sq_graph.specs.Cursor.{ahead_of, rest_from, renumbered, length_of_slots}
use Rattle.sq_graph.specs.Packed.{pieces_of, AreLaid, blocks_of, HasGaps, KeepsBlocks}
use Rattle.sq_graph.specs.Slots.{slots_from}
use Rattle.sq_graph.proofs.CursorLaws.{from_first}
use Rattle.sq_graph.proofs.Laid.{Lies, lies_first, lies_apart, lies_count, lies_blocks, lies_keys, keys_blocks}
use Rattle.sq_graph.proofs.Strewn.{laid_ends, pieces-blocks, strewn_count, strewn_starts}

pub from_start : (es new : List (ℕ × Slot)) (place : Option ℕ) → place ≡ first_key es → new ≡ ahead_of es place ++ renumbered 0 (rest_from es place) → new ≡ renumbered 0 es
from_start es new place at is =
    let first = from_first es in
    is ∙ ap (λ p. ahead_of es p ++ renumbered 0 (rest_from es p)) at ∙ (λ i. first.1.0 i ++ renumbered 0 (first.1.1 i))

pub closes : (old slots : Listed Slot) (old_items items : Vec Item Global) (end gaps count : ℕ) (head : Option ℕ) (was_loose loose : Loose)
    → HasGaps old.entries old_items.items end gaps was_loose → loose.free ≡ None → count ≡ length_of_slots old.entries
    → items.items ≡ pieces_of old_items.items old.entries ++ drop end old_items.items → vec_capacity items ≡ vec_capacity old_items
    → head ≡ first_key old.entries → slots.entries ≡ ahead_of old.entries head ++ renumbered 0 (rest_from old.entries head) → slots.spare ≡ old.spare
    → KeepsBlocks old old_items end gaps slots items count 0 loose
closes old slots old_items items end gaps count head was_loose loose has order counted packed capacity at numbered spare =
    let bs = blocks_of old.entries old_items.items in
    let rest = drop end old_items.items in
    let ends = laid_ends old.entries end was_loose.free (vec_capacity was_loose.scratch) has.lie in
    let whole : items.items ≡ items_of_blocks (blocks_of old.entries old_items.items) ++ drop end old_items.items =
    packed ∙ ap (λ xs. xs ++ rest) (pieces-blocks old.entries old_items.items) in
    let long : count ≡ length (items_of_blocks (blocks_of old.entries old_items.items)) = counted ∙ strewn_count old.entries old_items.items end ends has.within in
    let starts : slots.entries ≡ slots_from 0 (blocks_of old.entries old_items.items) =
    from_start old.entries slots.entries head at numbered ∙ strewn_starts 0 old.entries old_items.items end ends has.within in
    let first : Lies items.items 0 (slots_from 0 (blocks_of old.entries old_items.items)) (blocks_of old.entries old_items.items) count =
    lies_first [] bs rest items.items 0 count whole refl (omega (arith, long)) in
    let lies : Lies items.items 0 slots.entries (blocks_of old.entries old_items.items) count =
    subst (λ (es : List (ℕ × Slot)). Lies items.items 0 es (blocks_of old.entries old_items.items) count) (sym starts) first in
    let same : keys slots.entries ≡ keys old.entries = lies_keys items.items 0 slots.entries bs count lies ∙ sym (keys_blocks old.entries old_items.items) in
    record {
      gaps =
          record {
            distinct = rw same has.distinct;
            lie = subst (λ (free : Option ℕ). AreLaid slots.entries count free (vec_capacity loose.scratch)) (sym order) (lies_apart items.items 0 slots.entries bs count lies);
            within = omega (arith, long, ap (λ xs. length xs) whole, length-append (items_of_blocks (blocks_of old.entries old_items.items)) (drop end old_items.items));
            counted = omega (arith, long, lies_count items.items 0 slots.entries bs count lies);
          };
      blocks = lies_blocks items.items 0 slots.entries bs count lies;
      behind = ap (drop count) whole ∙ drop_at (items_of_blocks bs) rest count (sym long);
      fewer = omega arith;
      spare = spare;
      capacity = capacity;
    }

long_of : (es : List (ℕ × Slot)) (xs : List Item) (end gaps : ℕ) (loose : Loose) → HasGaps es xs end gaps loose → length xs ≡ gaps + length (items_of_blocks (blocks_of es xs)) + length (drop end xs)
long_of es xs end gaps loose has =
    let ends = laid_ends es end loose.free (vec_capacity loose.scratch) has.lie in
    omega (arith, has.within, has.counted, strewn_count es xs end ends has.within, length-drop end xs)

-- as many fewer items as gaps
pub kept_long : (old slots : Listed Slot) (old_items items : Vec Item Global) (old_end end old_gaps gaps : ℕ) (was_loose loose : Loose) → HasGaps old.entries old_items.items old_end old_gaps was_loose → KeepsBlocks old old_items old_end old_gaps slots items end gaps loose
    → length items.items + old_gaps ≡ length old_items.items + gaps
kept_long old slots old_items items old_end end old_gaps gaps was_loose loose has keeps =
    omega (arith, long_of old.entries old_items.items old_end old_gaps was_loose has, long_of slots.entries items.items end gaps loose keeps.gaps, ap (λ (bs : List Block). length (items_of_blocks bs)) keeps.blocks, ap (λ xs. length xs) keeps.behind)
