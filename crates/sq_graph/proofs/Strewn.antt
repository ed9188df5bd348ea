-- Slots whose items lie anywhere ahead of a place.
use Rattle.std.proofs.Common.{◌≡◌, ℕ, ◌+◌, ◌≤◌, ◌==◌, List, [], ◌∷◌, ◌++◌, length, take, drop, Option, None, Some, IsSome, refl, sym, ap, suc, ◌∙◌, subst, inl, inr, arith, length-append, length-drop}
use Rattle.std.proofs.lemmas.Bool.{cases_Bool, eqb-true}
use Rattle.std.proofs.lemmas.List.{length-take-le}
use Rattle.sq_arena.specs.Entries.{value_of, before, through, starting_at, behind}
use Rattle.sq_graph.specs.declared.item.Item.{Item}
use Rattle.sq_graph.specs.declared.slot.Slot.{Slot}
use Rattle.sq_graph.specs.Graph.{Block}
use Rattle.sq_graph.specs.Blocks.{items_of_blocks}
use Rattle.sq_graph.specs.Operations.{with_blocks}
use Rattle.sq_graph.specs.Packed.{pieces_of, EndBy, AreApart, AreLaid, blocks_of}
use Rattle.sq_graph.specs.Cursor.{renumbered, length_of_slots}
use Rattle.sq_graph.specs.Slots.{slots_from, slots_of, without_starts}
use Rattle.sq_graph.proofs.Packing.{apart_low}
use Rattle.sq_graph.proofs.Laid.{piece_ahead}

-- WHERE THEY END

pub ends_raise : (es : List (ℕ × Slot)) (low high : ℕ) → low ≤ high → EndBy es low → EndBy es high
ends_raise [] low high above ends = tt
ends_raise (e ∷ es) low high above ends = (omega (arith, above, ends.0), ends_raise es low high above ends.1)

pub ends_append : (es fs : List (ℕ × Slot)) (end : ℕ) → EndBy es end → EndBy fs end → EndBy (es ++ fs) end
ends_append [] fs end front back = back
ends_append (e ∷ es) fs end front back = (front.0, ends_append es fs end front.1 back)

pub ends_before : (es : List (ℕ × Slot)) (name end : ℕ) → EndBy es end → EndBy (before es name) end
ends_before [] name end ends = tt
ends_before (e ∷ es) name end ends =
    elim (cases_Bool (e.0 == name)) [ inl here ↦ rw here tt | inr apart ↦ rw apart (ends.0, ends_before es name end ends.1) ]

pub ends_through : (es : List (ℕ × Slot)) (name end : ℕ) → EndBy es end → EndBy (through es name) end
ends_through [] name end ends = tt
ends_through (e ∷ es) name end ends =
    elim (cases_Bool (e.0 == name)) [ inl here ↦ rw here (ends.0, tt) | inr apart ↦ rw apart (ends.0, ends_through es name end ends.1) ]

pub ends_starting_at : (es : List (ℕ × Slot)) (name end : ℕ) → EndBy es end → EndBy (starting_at es name) end
ends_starting_at [] name end ends = tt
ends_starting_at (e ∷ es) name end ends =
    elim (cases_Bool (e.0 == name)) [ inl here ↦ rw here (ends.0, ends.1) | inr apart ↦ rw apart (ends_starting_at es name end ends.1) ]

pub ends_behind : (es : List (ℕ × Slot)) (name end : ℕ) → EndBy es end → EndBy (behind es name) end
ends_behind [] name end ends = tt
ends_behind (e ∷ es) name end ends =
    elim (cases_Bool (e.0 == name)) [ inl here ↦ rw here ends.1 | inr apart ↦ rw apart (ends_behind es name end ends.1) ]

pub ends_found : (es : List (ℕ × Slot)) (end name : ℕ) (slot : Slot) → EndBy es end → value_of es name ≡ Some slot → slot.start + slot.length ≤ end
ends_found [] end name slot ends found = absurd (cc)
ends_found (e ∷ es) end name slot ends found =
    elim (cases_Bool (e.0 == name)) [
      | inl here ↦
          let value : e.1 ≡ slot = cc (rw here at found) in
          subst (λ (s : Slot). s.start + s.length ≤ end) value ends.0
      | inr elsewhere ↦ ends_found es end name slot ends.1 (rw elsewhere at found)
    ]

pub apart_ends : (es : List (ℕ × Slot)) (low end : ℕ) → AreApart es low end → EndBy es end
apart_ends [] low end apart = tt
apart_ends (e ∷ es) low end apart =
    (apart_low es (e.1.start + e.1.length) end apart.1, apart_ends es (e.1.start + e.1.length) end apart.1)

pub laid_ends : (es : List (ℕ × Slot)) (end : ℕ) (free : Option ℕ) (room : ℕ) → AreLaid es end free room → EndBy es end
laid_ends es end None room lie = apart_ends es 0 end lie
laid_ends es end (Some free) room lie = ends_raise es free end lie.1.0 lie.0

-- with other room for a copy
pub laid_copied : (es : List (ℕ × Slot)) (end room other : ℕ) (free again : Option ℕ) → again ≡ free → AreLaid es end free room → (IsSome free → length_of_slots es ≤ other) → AreLaid es end again other
laid_copied es end room other None again same lie fits = subst (λ (o : Option ℕ). AreLaid es end o other) (sym same) lie
laid_copied es end room other (Some free) again same lie fits =
    let now : AreLaid es end (Some free) other = (lie.0, (lie.1.0, (fits refl, lie.1.1.1))) in
    subst (λ (o : Option ℕ). AreLaid es end o other) (sym same) now

-- THE BLOCKS

pub pieces-blocks : (es : List (ℕ × Slot)) (xs : List Item) → pieces_of xs es ≡ items_of_blocks (blocks_of es xs)
pieces-blocks [] xs = refl
pieces-blocks (e ∷ es) xs = ap (λ ys. take e.1.length (drop e.1.start xs) ++ ys) (pieces-blocks es xs)

pub length-blocks_of : (es : List (ℕ × Slot)) (xs : List Item) → length (blocks_of es xs) ≡ length es
length-blocks_of [] xs = refl
length-blocks_of (e ∷ es) xs = ap suc (length-blocks_of es xs)

pub blocks_of-append : (es fs : List (ℕ × Slot)) (xs : List Item) → blocks_of (es ++ fs) xs ≡ blocks_of es xs ++ blocks_of fs xs
blocks_of-append [] fs xs = refl
blocks_of-append (e ∷ es) fs xs =
    ap (λ (bs : List Block). record { name = e.0; items = take e.1.length (drop e.1.start xs); term = e.1.term } ∷ bs) (blocks_of-append es fs xs)

piece_long : (xs : List Item) (start count end : ℕ) → start + count ≤ end → end ≤ length xs → length (take count (drop start xs)) ≡ count
piece_long xs start count end ends within = length-take-le count (drop start xs) (omega (arith, ends, within, length-drop start xs))

pub strewn_count : (es : List (ℕ × Slot)) (xs : List Item) (end : ℕ) → EndBy es end → end ≤ length xs → length_of_slots es ≡ length (items_of_blocks (blocks_of es xs))
strewn_count [] xs end ends within = refl
strewn_count (e ∷ es) xs end ends within =
    omega (arith, piece_long xs e.1.start e.1.length end ends.0 within, strewn_count es xs end ends.1 within, length-append (take e.1.length (drop e.1.start xs)) (items_of_blocks (blocks_of es xs)))

pub strewn_starts : (k : ℕ) (es : List (ℕ × Slot)) (xs : List Item) (end : ℕ) → EndBy es end → end ≤ length xs → renumbered k es ≡ slots_from k (blocks_of es xs)
strewn_starts k [] xs end ends within = refl
strewn_starts k (e ∷ es) xs end ends within =
    let size : e.1.length ≡ length (take e.1.length (drop e.1.start xs)) = sym (piece_long xs e.1.start e.1.length end ends.0 within) in
    (λ i. (e.0, record { start = k; length = size i; term = e.1.term }) ∷ renumbered (k + size i) es)
    ∙ ap (λ ss. (e.0, record { start = k; length = length (take e.1.length (drop e.1.start xs)); term = e.1.term }) ∷ ss) (strewn_starts (k + length (take e.1.length (drop e.1.start xs))) es xs end ends.1 within)

pub strewn_links : (es : List (ℕ × Slot)) (xs : List Item) (end : ℕ) → EndBy es end → end ≤ length xs → without_starts es ≡ slots_of (blocks_of es xs)
strewn_links [] xs end ends within = refl
strewn_links (e ∷ es) xs end ends within =
    let size : e.1.length ≡ length (take e.1.length (drop e.1.start xs)) = sym (piece_long xs e.1.start e.1.length end ends.0 within) in
    λ i. (e.0, record { start = 0; length = size i; term = e.1.term }) ∷ strewn_links es xs end ends.1 within i

-- the same items ahead of a place
pub blocks_ahead : (es : List (ℕ × Slot)) (xs ys : List Item) (m : ℕ) → EndBy es m → take m ys ≡ take m xs → blocks_of es ys ≡ blocks_of es xs
blocks_ahead [] xs ys m ends same = refl
blocks_ahead (e ∷ es) xs ys m ends same =
    let piece = piece_ahead xs ys m e.1.start e.1.length ends.0 same in
    λ i. record { name = e.0; items = piece i; term = e.1.term } ∷ blocks_ahead es xs ys m ends.1 same i

-- the slot of a block makes way for others, and no item is written
pub strewn_changed : (xs : List Item) (f : Block → List Block) (name : ℕ) (slot : Slot) (mid : List (ℕ × Slot))
    → blocks_of mid xs ≡ f (record { name = name; items = take slot.length (drop slot.start xs); term = slot.term })
    → (es : List (ℕ × Slot)) → value_of es name ≡ Some slot
    → blocks_of (before es name ++ (mid ++ behind es name)) xs ≡ with_blocks f (blocks_of es xs) name
strewn_changed xs f name slot mid there [] found = absurd (cc)
strewn_changed xs f name slot mid there (e ∷ es) found =
    elim (cases_Bool (e.0 == name)) [
      | inl here ↦
          let value : e.1 ≡ slot = cc (rw here at found) in
          let same : f (record { name = e.0; items = take e.1.length (drop e.1.start xs); term = e.1.term }) ≡ f (record { name = name; items = take slot.length (drop slot.start xs); term = slot.term }) =
          λ i. f (record { name = eqb-true e.0 name here i; items = take (value i).length (drop (value i).start xs); term = (value i).term }) in
          rw here (blocks_of-append mid es xs ∙ ap (λ bs. bs ++ blocks_of es xs) (there ∙ sym same))
      | inr apart ↦
          rw apart (ap (λ (bs : List Block). record { name = e.0; items = take e.1.length (drop e.1.start xs); term = e.1.term } ∷ bs) (strewn_changed xs f name slot mid there es (rw apart at found)))
    ]

pub strewn_long : (es : List (ℕ × Slot)) (xs : List Item) (end : ℕ) → EndBy es end → end ≤ length xs → length (pieces_of xs es) ≡ length_of_slots es
strewn_long es xs end ends within = ap (λ (ys : List Item). length ys) (pieces-blocks es xs) ∙ sym (strewn_count es xs end ends within)
