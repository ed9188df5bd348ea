-- Slots that show blocks, whose items lie apart.
use Rattle.std.proofs.Common.{◌≡◌, ℕ, ◌+◌, ◌≤◌, ◌==◌, true, List, [], ◌∷◌, ◌++◌, length, take, drop, Some, refl, sym, ap, suc, ◌∙◌, inl, inr, arith, append_assoc, length-append, length-drop}
use Rattle.std.proofs.lemmas.Bool.{cases_Bool, eqb-true}
use Rattle.std.proofs.lemmas.List.{length-take-le, take-append-drop, take-take, drop-take, drop-drop}
use Rattle.sq_arena.specs.Entries.{keys, value_of, before, behind}
use Rattle.sq_graph.specs.declared.item.Item.{Item}
use Rattle.sq_graph.specs.declared.slot.Slot.{Slot}
use Rattle.sq_graph.specs.Graph.{Block}
use Rattle.sq_graph.specs.Blocks.{named, items_of_blocks}
use Rattle.sq_graph.specs.Operations.{with_blocks}
use Rattle.sq_graph.specs.Packed.{pieces_of, AreApart, blocks_of}
use Rattle.sq_graph.specs.Cursor.{renumbered, length_of_slots}
use Rattle.sq_graph.specs.Slots.{slot_of, slots_from}
use Rattle.sq_graph.proofs.Located.{middle}
use Rattle.sq_graph.proofs.Packing.{apart_low, later_same}

-- the slot has the block's name, term and items
pub record Stands (xs : List Item) (low : ℕ) (e : ℕ × Slot) (b : Block) : Type 0 where
  pub name : e.0 ≡ b.name
  pub term : e.1.term ≡ b.term
  pub counted : e.1.length ≡ length b.items
  pub above : low ≤ e.1.start
  pub items : take e.1.length (drop e.1.start xs) ≡ b.items

-- the slots show the blocks, and their items lie apart
abbrev pub Lies : List Item → ℕ → List (ℕ × Slot) → List Block → ℕ → Type 0
Lies xs low [] [] end = low ≤ end
Lies xs low [] (b ∷ bs) end = ⊥
Lies xs low (e ∷ es) [] end = ⊥
Lies xs low (e ∷ es) (b ∷ bs) end = Stands xs low e b × Lies xs (e.1.start + e.1.length) es bs end

pub lies_first : (front : List Item) (bs : List Block) (rest xs : List Item) (k end : ℕ) → xs ≡ front ++ (items_of_blocks bs ++ rest) → k ≡ length front → end ≡ k + length (items_of_blocks bs) → Lies xs k (slots_from k bs) bs end
lies_first front [] rest xs k end is at ends = omega (arith, ends)
lies_first front (b ∷ bs) rest xs k end is at ends =
    let whole : xs ≡ front ++ (b.items ++ (items_of_blocks bs ++ rest)) = is ∙ ap (λ ys. front ++ ys) (append_assoc b.items (items_of_blocks bs) rest) in (
      record {
        name = refl;
        term = refl;
        counted = refl;
        above = omega arith;
        items = ap (λ ys. take (length b.items) (drop k ys)) whole
            ∙ ap (λ n. take (length b.items) (drop n (front ++ (b.items ++ (items_of_blocks bs ++ rest))))) at
            ∙ middle front b.items (items_of_blocks bs ++ rest);
      },
      lies_first (front ++ b.items) bs rest xs (k + length b.items) end (whole ∙ sym (append_assoc front b.items (items_of_blocks bs ++ rest))) (omega (arith, at, length-append front b.items)) (omega (arith, ends, length-append b.items (items_of_blocks bs))),
    )

pub lies_lower : (xs : List Item) (low low' : ℕ) (es : List (ℕ × Slot)) (bs : List Block) (end : ℕ) → low' ≤ low → Lies xs low es bs end → Lies xs low' es bs end
lies_lower xs low low' [] [] end below lies = omega (arith, below, lies)
lies_lower xs low low' [] (b ∷ bs) end below lies = absurd lies
lies_lower xs low low' (e ∷ es) [] end below lies = absurd lies
lies_lower xs low low' (e ∷ es) (b ∷ bs) end below lies =
    let st = lies.0 in
    (record { name = st.name; term = st.term; counted = st.counted; above = omega (arith, below, st.above); items = st.items }, lies.1)

pub lies_apart : (xs : List Item) (low : ℕ) (es : List (ℕ × Slot)) (bs : List Block) (end : ℕ) → Lies xs low es bs end → AreApart es low end
lies_apart xs low [] [] end lies = lies
lies_apart xs low [] (b ∷ bs) end lies = absurd lies
lies_apart xs low (e ∷ es) [] end lies = absurd lies
lies_apart xs low (e ∷ es) (b ∷ bs) end lies = (lies.0.above, lies_apart xs (e.1.start + e.1.length) es bs end lies.1)

pub lies_pieces : (xs : List Item) (low : ℕ) (es : List (ℕ × Slot)) (bs : List Block) (end : ℕ) → Lies xs low es bs end → pieces_of xs es ≡ items_of_blocks bs
lies_pieces xs low [] [] end lies = refl
lies_pieces xs low [] (b ∷ bs) end lies = absurd lies
lies_pieces xs low (e ∷ es) [] end lies = absurd lies
lies_pieces xs low (e ∷ es) (b ∷ bs) end lies =
    ap (λ ys. ys ++ pieces_of xs es) lies.0.items ∙ ap (λ ys. b.items ++ ys) (lies_pieces xs (e.1.start + e.1.length) es bs end lies.1)

pub lies_slots : (xs : List Item) (low k : ℕ) (es : List (ℕ × Slot)) (bs : List Block) (end : ℕ) → Lies xs low es bs end → renumbered k es ≡ slots_from k bs
lies_slots xs low k [] [] end lies = refl
lies_slots xs low k [] (b ∷ bs) end lies = absurd lies
lies_slots xs low k (e ∷ es) [] end lies = absurd lies
lies_slots xs low k (e ∷ es) (b ∷ bs) end lies =
    let st = lies.0 in
    (λ i. (st.name i, record { start = k; length = st.counted i; term = st.term i }) ∷ renumbered (k + st.counted i) es)
    ∙ ap (λ xs. (b.name, record { start = k; length = length b.items; term = b.term }) ∷ xs) (lies_slots xs (e.1.start + e.1.length) (k + length b.items) es bs end lies.1)

pub lies_within : (xs : List Item) (low : ℕ) (es : List (ℕ × Slot)) (bs : List Block) (end : ℕ) → Lies xs low es bs end → low + length_of_slots es ≤ end
lies_within xs low [] [] end lies = omega (arith, lies)
lies_within xs low [] (b ∷ bs) end lies = absurd lies
lies_within xs low (e ∷ es) [] end lies = absurd lies
lies_within xs low (e ∷ es) (b ∷ bs) end lies = omega (arith, lies.0.above, lies_within xs (e.1.start + e.1.length) es bs end lies.1)

pub lies_count : (xs : List Item) (low : ℕ) (es : List (ℕ × Slot)) (bs : List Block) (end : ℕ) → Lies xs low es bs end → length_of_slots es ≡ length (items_of_blocks bs)
lies_count xs low [] [] end lies = refl
lies_count xs low [] (b ∷ bs) end lies = absurd lies
lies_count xs low (e ∷ es) [] end lies = absurd lies
lies_count xs low (e ∷ es) (b ∷ bs) end lies =
    omega (arith, lies.0.counted, lies_count xs (e.1.start + e.1.length) es bs end lies.1, length-append b.items (items_of_blocks bs))

pub lies_blocks : (xs : List Item) (low : ℕ) (es : List (ℕ × Slot)) (bs : List Block) (end : ℕ) → Lies xs low es bs end → blocks_of es xs ≡ bs
lies_blocks xs low [] [] end lies = refl
lies_blocks xs low [] (b ∷ bs) end lies = absurd lies
lies_blocks xs low (e ∷ es) [] end lies = absurd lies
lies_blocks xs low (e ∷ es) (b ∷ bs) end lies =
    let st = lies.0 in
    λ i. record { name = st.name i; items = st.items i; term = st.term i } ∷ lies_blocks xs (e.1.start + e.1.length) es bs end lies.1 i

-- slots that lie apart show the blocks with their pieces
pub apart_lies : (xs : List Item) (low : ℕ) (es : List (ℕ × Slot)) (end : ℕ) → AreApart es low end → end ≤ length xs → Lies xs low es (blocks_of es xs) end
apart_lies xs low [] end apart within = apart
apart_lies xs low (e ∷ es) end apart within =
    let fits = apart_low es (e.1.start + e.1.length) end apart.1 in (
      record {
        name = refl;
        term = refl;
        counted = sym (length-take-le e.1.length (drop e.1.start xs) (omega (arith, fits, within, length-drop e.1.start xs)));
        above = apart.0;
        items = refl;
      },
      apart_lies xs (e.1.start + e.1.length) es end apart.1 within,
    )

pub keys_blocks : (es : List (ℕ × Slot)) (xs : List Item) → keys es ≡ keys (named (blocks_of es xs))
keys_blocks [] xs = refl
keys_blocks (e ∷ es) xs = ap (λ ks. e.0 ∷ ks) (keys_blocks es xs)

pub lies_keys : (xs : List Item) (low : ℕ) (es : List (ℕ × Slot)) (bs : List Block) (end : ℕ) → Lies xs low es bs end → keys es ≡ keys (named bs)
lies_keys xs low es bs end lies = keys_blocks es xs ∙ ap (λ cs. keys (named cs)) (lies_blocks xs low es bs end lies)

pub length-renumbered : (n : ℕ) (es : List (ℕ × Slot)) → length (renumbered n es) ≡ length es
length-renumbered n [] = refl
length-renumbered n (e ∷ es) = ap suc (length-renumbered (n + e.1.length) es)

-- NO GAP

-- where there is no gap, the slots have their starts, and the items lie one right behind another
pub lies_tight : (xs : List Item) (low : ℕ) (es : List (ℕ × Slot)) (bs : List Block) (end : ℕ) → Lies xs low es bs end → low + length_of_slots es ≡ end → (es ≡ slots_from low bs) × (drop low xs ≡ items_of_blocks bs ++ drop end xs)
lies_tight xs low [] [] end lies full = let same : low ≡ end = omega (arith, full) in (refl, ap (λ n. drop n xs) same)
lies_tight xs low [] (b ∷ bs) end lies full = absurd lies
lies_tight xs low (e ∷ es) [] end lies full = absurd lies
lies_tight xs low (e ∷ es) (b ∷ bs) end lies full =
    let st = lies.0 in
    let start : e.1.start ≡ low = omega (arith, st.above, full, lies_within xs (e.1.start + e.1.length) es bs end lies.1) in
    let rest = lies_tight xs (e.1.start + e.1.length) es bs end lies.1 (omega (arith, full, start)) in
    let next : e.1.start + e.1.length ≡ low + length b.items = omega (arith, start, st.counted) in
    let piece : take e.1.length (drop low xs) ≡ b.items = ap (λ n. take e.1.length (drop n xs)) (sym start) ∙ st.items in (
      (λ i. (st.name i, record { start = start i; length = st.counted i; term = st.term i }) ∷ rest.0 i)
          ∙ ap (λ n. (b.name, slot_of low b) ∷ slots_from n bs) next,
      sym (take-append-drop e.1.length (drop low xs))
          ∙ ap (λ ys. ys ++ drop e.1.length (drop low xs)) piece
          ∙ ap (λ ys. b.items ++ ys) (drop-drop e.1.length low xs ∙ ap (λ n. drop (n + e.1.length) xs) (sym start) ∙ rest.1)
          ∙ sym (append_assoc b.items (items_of_blocks bs) (drop end xs)),
    )

-- ONE BLOCK

pub piece_ahead : (xs ys : List Item) (m start n : ℕ) → start + n ≤ m → take m ys ≡ take m xs → take n (drop start ys) ≡ take n (drop start xs)
piece_ahead xs ys m start n fits same =
    sym (drop-take start n ys)
    ∙ ap (drop start) (sym (take-take (start + n) m ys fits) ∙ ap (take (start + n)) same ∙ take-take (start + n) m xs fits)
    ∙ drop-take start n xs

lies_append : (xs : List Item) (low mid end : ℕ) (fs cs : List (ℕ × Slot)) (bs ds : List Block) → Lies xs low fs bs mid → Lies xs mid cs ds end → Lies xs low (fs ++ cs) (bs ++ ds) end
lies_append xs low mid end [] cs [] ds front back = lies_lower xs mid low cs ds end front back
lies_append xs low mid end [] cs (b ∷ bs) ds front back = absurd front
lies_append xs low mid end (e ∷ fs) cs [] ds front back = absurd front
lies_append xs low mid end (e ∷ fs) cs (b ∷ bs) ds front back = (front.0, lies_append xs (e.1.start + e.1.length) mid end fs cs bs ds front.1 back)

pub lies_behind : (xs ys : List Item) (m low : ℕ) (es : List (ℕ × Slot)) (bs : List Block) (end : ℕ) → m ≤ low → drop m ys ≡ drop m xs → Lies xs low es bs end → Lies ys low es bs end
lies_behind xs ys m low [] [] end later same lies = lies
lies_behind xs ys m low [] (b ∷ bs) end later same lies = absurd lies
lies_behind xs ys m low (e ∷ es) [] end later same lies = absurd lies
lies_behind xs ys m low (e ∷ es) (b ∷ bs) end later same lies =
    let st = lies.0 in (
      record {
        name = st.name;
        term = st.term;
        counted = st.counted;
        above = st.above;
        items = ap (take e.1.length) (later_same xs ys m e.1.start (omega (arith, later, st.above)) same) ∙ st.items;
      },
      lies_behind xs ys m (e.1.start + e.1.length) es bs end (omega (arith, later, st.above)) same lies.1,
    )

pub lies_found : (xs : List Item) (low : ℕ) (es : List (ℕ × Slot)) (bs : List Block) (end name : ℕ) (slot : Slot) → Lies xs low es bs end → value_of es name ≡ Some slot → low ≤ slot.start
lies_found xs low [] bs end name slot lies found = absurd (cc)
lies_found xs low (e ∷ es) [] end name slot lies found = absurd lies
lies_found xs low (e ∷ es) (b ∷ bs) end name slot lies found =
    elim (cases_Bool (e.0 == name)) [
      | inl here ↦
          let value : e.1 ≡ slot = cc (rw here at found) in
          omega (arith, lies.0.above, ap (λ s. s.start) value)
      | inr apart ↦ omega (arith, lies.0.above, lies_found xs (e.1.start + e.1.length) es bs end name slot lies.1 (rw apart at found))
    ]

-- the slot of a block makes way for others within its items, which show other blocks
pub lies_changed : (xs ys : List Item) (f : Block → List Block) (name : ℕ) (slot : Slot) (mid : List (ℕ × Slot)) (end : ℕ)
    → take slot.start ys ≡ take slot.start xs → drop (slot.start + slot.length) ys ≡ drop (slot.start + slot.length) xs
    → ((b : Block) → Stands xs slot.start (name, slot) b → Lies ys slot.start mid (f b) (slot.start + slot.length))
    → (low : ℕ) (es : List (ℕ × Slot)) (bs : List Block) → Lies xs low es bs end → value_of es name ≡ Some slot
    → Lies ys low (before es name ++ (mid ++ behind es name)) (with_blocks f bs name) end
lies_changed xs ys f name slot mid end ahead later there low [] bs lies found = absurd (cc)
lies_changed xs ys f name slot mid end ahead later there low (e ∷ es) [] lies found = absurd lies
lies_changed xs ys f name slot mid end ahead later there low (e ∷ es) (b ∷ bs) lies found =
    elim (cases_Bool (e.0 == name)) [
      | inl here ↦
          let value : e.1 ≡ slot = cc (rw here at found) in
          let st = lies.0 in
          let too : (b.name == name) ≡ true = ap (λ k. k == name) (sym st.name) ∙ here in
          let stands : Stands xs slot.start (name, slot) b = record {
            name = sym (eqb-true e.0 name here) ∙ st.name;
            term = ap (λ s. s.term) (sym value) ∙ st.term;
            counted = ap (λ s. s.length) (sym value) ∙ st.counted;
            above = omega arith;
            items = ap (λ s. take s.length (drop s.start xs)) (sym value) ∙ st.items;
          } in
          let rest = lies_behind xs ys (slot.start + slot.length) (slot.start + slot.length) es bs end (omega arith) later (rw value at lies.1) in
          rw (here, too)
          (lies_append ys low (slot.start + slot.length) end mid es (f b) bs (lies_lower ys slot.start low mid (f b) (slot.start + slot.length) (omega (arith, st.above, ap (λ s. s.start) value)) (there b stands)) rest)
      | inr apart ↦
          let st = lies.0 in
          let too = ap (λ k. k == name) (sym st.name) ∙ apart in
          let found' = rw apart at found in
          let fits = lies_found xs (e.1.start + e.1.length) es bs end name slot lies.1 found' in
          rw (apart, too) (
            record {
              name = st.name;
              term = st.term;
              counted = st.counted;
              above = st.above;
              items = piece_ahead xs ys slot.start e.1.start e.1.length fits ahead ∙ st.items;
            },
            lies_changed xs ys f name slot mid end ahead later there (e.1.start + e.1.length) es bs lies.1 found',
          )
    ]
