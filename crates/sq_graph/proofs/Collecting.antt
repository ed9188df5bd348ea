-- Items that are copied in the order of their slots, wherever they lie.
use Rattle.std.proofs.Common.{◌≡◌, ℕ, ◌+◌, ◌-◌, ◌≤◌, List, [], ◌++◌, length, take, drop, Option, None, Some, sym, ap, ◌∙◌, arith, append_assoc, length-append, length-drop}
use Rattle.std.proofs.lemmas.List.{append-nil, length-take-le}
use Rattle.sq_arena.specs.Entries.{HasDistinctKeys, value_of, behind, first_key, next_key}
use Rattle.sq_arena.proofs.EntriesLemmas.{starting_at-behind}
use Rattle.sq_graph.specs.declared.item.Item.{Item}
use Rattle.sq_graph.specs.declared.slot.Slot.{Slot}
use Rattle.sq_graph.specs.Operations.{replaced_items}
use Rattle.sq_graph.specs.Cursor.{IsPlace, rest_from, length_of_slots}
use Rattle.sq_graph.specs.Packed.{pieces_of, EndBy}
use Rattle.sq_graph.proofs.CursorLaws.{from_first, next_in}
use Rattle.sq_graph.proofs.Packing.{upto_written, behind_written}
use Rattle.sq_graph.proofs.Strewn.{ends_found}

-- the items of the slots ahead of a place are copied, and more is to be
pub record Collects (es : List (ℕ × Slot)) (xs to : List Item) (place : Option ℕ) : Type 0 where
  pub is_place : IsPlace es place
  pub done : to ++ pieces_of xs (rest_from es place) ≡ pieces_of xs es
  pub counted : length to + length_of_slots (rest_from es place) ≡ length_of_slots es

pub collects_first : (es : List (ℕ × Slot)) (xs : List Item) → Collects es xs [] (first_key es)
collects_first es xs =
    let first = from_first es in
    record { is_place = first.0; done = ap (pieces_of xs) first.1.1; counted = omega (arith, ap length_of_slots first.1.1) }

-- the slot at the place lies among the items, and there is room for it
pub record Collectable (es : List (ℕ × Slot)) (xs to : List Item) (v : Slot) : Type 0 where
  pub within : v.start + v.length ≤ length xs
  pub room : length to + v.length ≤ length_of_slots es
  pub long : length (take v.length (drop v.start xs)) ≡ v.length

pub collectable : (es : List (ℕ × Slot)) (xs to : List Item) (key : ℕ) (v : Slot) → EndBy es (length xs) → Collects es xs to (Some key) → value_of es key ≡ Some v → Collectable es xs to v
collectable es xs to key v ends so_far found =
    let within = ends_found es (length xs) key v ends found in
    record {
      within = within;
      room = omega (arith, so_far.counted, ap length_of_slots (starting_at-behind es key v found));
      long = length-take-le v.length (drop v.start xs) (omega (arith, within, length-drop v.start xs));
    }

pub collects_step : (es : List (ℕ × Slot)) (xs to new : List Item) (key : ℕ) (v : Slot) → HasDistinctKeys es → EndBy es (length xs) → Collects es xs to (Some key) → value_of es key ≡ Some v
    → new ≡ to ++ take v.length (drop v.start xs) → Collects es xs new (next_key es key)
collects_step es xs to new key v distinct ends so_far found is =
    let next = next_in es key v distinct found in
    let parts = starting_at-behind es key v found in
    let piece = take v.length (drop v.start xs) in
    record {
      is_place = next.0;
      done =
          ap (λ rs. new ++ pieces_of xs rs) next.1
          ∙ ap (λ ys. ys ++ pieces_of xs (behind es key)) is
          ∙ append_assoc to (take v.length (drop v.start xs)) (pieces_of xs (behind es key))
          ∙ ap (λ rs. to ++ pieces_of xs rs) (sym parts)
          ∙ so_far.done;
      counted = omega (arith, so_far.counted, ap length_of_slots parts, ap length_of_slots next.1, ap (λ (ys : List Item). length ys) is, length-append to piece, (collectable es xs to key v ends so_far found).long);
    }

pub collects_all : (es : List (ℕ × Slot)) (xs to : List Item) → Collects es xs to None → to ≡ pieces_of xs es
collects_all es xs to so_far = sym (append-nil to) ∙ so_far.done

-- what is copied stands in the place of all up to `end`
pub collected : (xs by ys zs : List Item) (count end : ℕ) → count ≡ length by → count ≤ end → end ≤ length xs → ys ≡ replaced_items xs 0 (length by) by → zs ≡ take count ys ++ drop (count + (end - count)) ys → zs ≡ by ++ drop end xs
collected xs by ys zs count end counted fits within written cut =
    let there : count + (end - count) ≡ end = omega (arith, fits) in
    let is : ys ≡ replaced_items xs 0 count by = written ∙ ap (λ n. replaced_items xs 0 n by) (sym counted) in
    let first : 0 + count ≡ count = omega arith in
    let upto : take count (replaced_items xs 0 count by) ≡ by = ap (λ n. take n (replaced_items xs 0 count by)) (sym first) ∙ upto_written xs by 0 count (omega arith) (sym counted) in
    let later : drop end (replaced_items xs 0 count by) ≡ drop end xs = behind_written xs by 0 count end (omega arith) (sym counted) (omega (arith, fits)) in
    cut
    ∙ ap (λ n. take count ys ++ drop n ys) there
    ∙ ap (λ ws. take count ws ++ drop end ws) is
    ∙ ap (λ ws. ws ++ drop end (replaced_items xs 0 count by)) upto
    ∙ ap (λ ws. by ++ ws) later
