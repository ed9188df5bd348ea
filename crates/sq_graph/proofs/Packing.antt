-- Items that are moved together.
use Rattle.std.proofs.Common.{◌≡◌, ℕ, ◌+◌, ◌-◌, ◌≤◌, List, [], ◌∷◌, ◌++◌, length, take, drop, Option, None, Some, refl, sym, ap, ◌∙◌, subst, arith, append_assoc, length-append, length-drop}
use Rattle.std.proofs.lemmas.List.{append-nil, length-take-le, take-append-le, take-take, take_at, drop_at, drop-drop}
use Rattle.sq_arena.specs.Entries.{HasDistinctKeys, value_of, behind, starting_at, first_key, next_key}
use Rattle.sq_arena.proofs.EntriesLemmas.{starting_at-behind}
use Rattle.sq_graph.specs.declared.item.Item.{Item}
use Rattle.sq_graph.specs.declared.slot.Slot.{Slot}
use Rattle.sq_graph.specs.Operations.{replaced_items}
use Rattle.sq_graph.specs.Cursor.{IsPlace, rest_from, length_of_slots}
use Rattle.sq_graph.specs.Packed.{pieces_of, AreApart}
use Rattle.sq_graph.proofs.CursorLaws.{from_first, next_in}

-- the items up to a place and those behind are there, and more is to be moved
pub record Packs (es : List (ℕ × Slot)) (end : ℕ) (old now : List Item) (place : Option ℕ) (count : ℕ) : Type 0 where
  pub is_place : IsPlace es place
  pub low : ℕ
  pub apart : AreApart (rest_from es place) low end
  pub below : count ≤ low
  pub same : drop low now ≡ drop low old
  pub done : take count now ++ pieces_of old (rest_from es place) ≡ pieces_of old es
  pub counted : count + length_of_slots (rest_from es place) ≡ length_of_slots es
  pub long : length now ≡ length old

pub packs_first : (es : List (ℕ × Slot)) (end : ℕ) (old : List Item) → AreApart es 0 end → Packs es end old old (first_key es) 0
packs_first es end old apart =
    let first = from_first es in
    record {
      is_place = first.0;
      low = 0;
      apart = subst (λ rs. AreApart rs 0 end) (sym first.1.1) apart;
      below = omega arith;
      same = refl;
      done = ap (pieces_of old) first.1.1;
      counted = omega (arith, ap length_of_slots first.1.1);
      long = refl;
    }

pub apart_low : (es : List (ℕ × Slot)) (low end : ℕ) → AreApart es low end → low ≤ end
apart_low [] low end apart = apart
apart_low (e ∷ es) low end apart = let rest = apart_low es (e.1.start + e.1.length) end apart.1 in let first = apart.0 in omega arith

here : (es : List (ℕ × Slot)) (key : ℕ) (v : Slot) (low end : ℕ) → value_of es key ≡ Some v → AreApart (starting_at es key) low end → (low ≤ v.start) × AreApart (behind es key) (v.start + v.length) end
here es key v low end found apart = subst (λ rs. AreApart rs low end) (starting_at-behind es key v found) apart

-- the slot at the place lies there
pub record Fits (end count : ℕ) (v : Slot) : Type 0 where
  pub down : count ≤ v.start
  pub within : v.start + v.length ≤ end

pub packs_fit : (es : List (ℕ × Slot)) (end : ℕ) (old now : List Item) (key : ℕ) (v : Slot) (count : ℕ) → Packs es end old now (Some key) count → value_of es key ≡ Some v → Fits end count v
packs_fit es end old now key v count packs found =
    let there = here es key v packs.low end found packs.apart in
    let first = there.0 in
    record {
      down = omega (arith, packs.below, first);
      within = apart_low (behind es key) (v.start + v.length) end there.1;
    }

pub length-replaced_items : (xs by : List Item) (at count : ℕ) → at + count ≤ length xs → length (replaced_items xs at count by) + count ≡ length xs + length by
length-replaced_items xs by at count fits =
    omega (arith, fits, length-append (take at xs) (by ++ drop (at + count) xs), length-append by (drop (at + count) xs), length-take-le at xs (omega (arith, fits)), length-drop (at + count) xs)

-- items that are written over the same number
pub ahead_written : (xs by : List Item) (n at count : ℕ) → n ≤ at → at ≤ length xs → take n (replaced_items xs at count by) ≡ take n xs
ahead_written xs by n at count before fits =
    take-append-le n (take at xs) (by ++ drop (at + count) xs) (omega (arith, before, length-take-le at xs fits)) ∙ take-take n at xs before

pub upto_written : (xs by : List Item) (at count : ℕ) → at ≤ length xs → length by ≡ count → take (at + count) (replaced_items xs at count by) ≡ take at xs ++ by
upto_written xs by at count fits size =
    ap (take (at + count)) (sym (append_assoc (take at xs) by (drop (at + count) xs)))
    ∙ take_at (take at xs ++ by) (drop (at + count) xs) (at + count) (omega (arith, length-append (take at xs) by, length-take-le at xs fits, size))

pub behind_written : (xs by : List Item) (at count from : ℕ) → at ≤ length xs → length by ≡ count → at + count ≤ from → drop from (replaced_items xs at count by) ≡ drop from xs
behind_written xs by at count from fits size later =
    let n = at + count in
    let split : at + count + (from - (at + count)) ≡ from = omega (arith, later) in
    let cut : drop (at + count) (replaced_items xs at count by) ≡ drop (at + count) xs =
    ap (drop (at + count)) (sym (append_assoc (take at xs) by (drop (at + count) xs)))
    ∙ drop_at (take at xs ++ by) (drop (at + count) xs) (at + count) (omega (arith, length-append (take at xs) by, length-take-le at xs fits, size)) in
    ap (λ k. drop k (replaced_items xs at count by)) (sym split)
    ∙ sym (drop-drop (from - n) n (replaced_items xs at count by))
    ∙ ap (drop (from - n)) cut
    ∙ drop-drop (from - n) n xs
    ∙ ap (λ k. drop k xs) split

pub later_same : (old now : List Item) (low from : ℕ) → low ≤ from → drop low now ≡ drop low old → drop from now ≡ drop from old
later_same old now low from later same =
    let split : low + (from - low) ≡ from = omega (arith, later) in
    ap (λ k. drop k now) (sym split) ∙ sym (drop-drop (from - low) low now) ∙ ap (drop (from - low)) same ∙ drop-drop (from - low) low old ∙ ap (λ k. drop k old) split

pub packs_step : (es : List (ℕ × Slot)) (end : ℕ) (old now new : List Item) (key : ℕ) (v : Slot) (count : ℕ) → HasDistinctKeys es → end ≤ length old → Packs es end old now (Some key) count → value_of es key ≡ Some v
    → new ≡ replaced_items now count v.length (take v.length (drop v.start now)) → Packs es end old new (next_key es key) (count + v.length)
packs_step es end old now new key v count distinct within packs found is =
    let there = here es key v packs.low end found packs.apart in
    let first = there.0 in
    let fits = packs_fit es end old now key v count packs found in
    let next = next_in es key v distinct found in
    let moved = take v.length (drop v.start now) in
    let size : length (take v.length (drop v.start now)) ≡ v.length = length-take-le v.length (drop v.start now) (omega (arith, fits.within, within, packs.long, length-drop v.start now)) in
    let at : count ≤ length now = omega (arith, fits.down, fits.within, within, packs.long) in
    let parts : rest_from es (Some key) ≡ (key, v) ∷ behind es key = starting_at-behind es key v found in
    let piece : take v.length (drop v.start now) ≡ take v.length (drop v.start old) = ap (take v.length) (later_same old now packs.low v.start first packs.same) in
    record {
      is_place = next.0;
      low = v.start + v.length;
      apart = subst (λ rs. AreApart rs (v.start + v.length) end) (sym next.1) there.1;
      below = omega (arith, fits.down);
      same =
          ap (drop (v.start + v.length)) is
          ∙ behind_written now (take v.length (drop v.start now)) count v.length (v.start + v.length) at size (omega (arith, fits.down))
          ∙ later_same old now packs.low (v.start + v.length) (omega (arith, first)) packs.same;
      done =
          ap (λ rs. take (count + v.length) new ++ pieces_of old rs) next.1
          ∙ ap (λ xs. take (count + v.length) xs ++ pieces_of old (behind es key)) is
          ∙ ap (λ xs. xs ++ pieces_of old (behind es key)) (upto_written now (take v.length (drop v.start now)) count v.length at size)
          ∙ append_assoc (take count now) (take v.length (drop v.start now)) (pieces_of old (behind es key))
          ∙ ap (λ xs. take count now ++ (xs ++ pieces_of old (behind es key))) piece
          ∙ ap (λ rs. take count now ++ pieces_of old rs) (sym parts)
          ∙ packs.done;
      counted = omega (arith, packs.counted, ap length_of_slots parts, ap length_of_slots next.1);
      long = omega (arith, ap (λ xs. length xs) is, length-replaced_items now (take v.length (drop v.start now)) count v.length (omega (arith, fits.down, fits.within, within, packs.long)), size, packs.long);
    }

pub record Packed (es : List (ℕ × Slot)) (end : ℕ) (old now : List Item) (count : ℕ) : Type 0 where
  pub below : count ≤ end
  pub counted : count ≡ length_of_slots es
  pub all : take count now ++ drop (count + (end - count)) now ≡ pieces_of old es ++ drop end old

pub packs_all : (es : List (ℕ × Slot)) (end : ℕ) (old now : List Item) (count : ℕ) → Packs es end old now None count → Packed es end old now count
packs_all es end old now count packs =
    let low : packs.low ≤ end = packs.apart in
    let below : count ≤ end = omega (arith, packs.below, low) in
    let there : count + (end - count) ≡ end = omega (arith, below) in
    record {
      below = below;
      counted = omega (arith, packs.counted);
      all =
          ap (λ k. take count now ++ drop k now) there
          ∙ ap (λ xs. take count now ++ xs) (later_same old now packs.low end low packs.same)
          ∙ ap (λ xs. xs ++ drop end old) (sym (append-nil (take count now)) ∙ packs.done);
    }
