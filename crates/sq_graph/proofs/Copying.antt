-- Blocks that are copied one after another, with other items.
use Rattle.std.proofs.Common.{◌≡◌, ℕ, suc, ◌+◌, ◌==◌, List, [], ◌∷◌, ◌++◌, map, length, Option, None, Some, refl, sym, ap, ◌∙◌, subst, arith, inl, inr, append_assoc}
use Rattle.std.proofs.lemmas.Bool.{cases_Bool}
use Rattle.std.proofs.lemmas.List.{append-nil}
use Rattle.sq_arena.specs.Entries.{HasDistinctKeys, value_of, with_value, before, behind, first_key, next_key}
use Rattle.sq_arena.proofs.EntriesLaws.{absent_ahead, before-append, behind-append}
use Rattle.sq_graph.specs.declared.item.Item.{Item}
use Rattle.sq_graph.specs.declared.slot.Slot.{Slot}
use Rattle.sq_graph.specs.Graph.{Block, Graph}
use Rattle.sq_graph.specs.Blocks.{named, block_of, block_items, items_of, items_of_blocks}
use Rattle.sq_graph.specs.Rules.{IsGraph}
use Rattle.sq_graph.specs.Slots.{slot_of, slots_from, slots_of, without_starts}
use Rattle.sq_graph.proofs.Located.{named-append, items_of_blocks-append, slots_from-append, value_of-slots-none, value_of-at}
use Rattle.sq_graph.proofs.CursorLaws.{with_value-split, distinct-with_value}

pub length-slots_from : (n : ℕ) (bs : List Block) → length (slots_from n bs) ≡ length bs
length-slots_from n [] = refl
length-slots_from n (b ∷ bs) = ap suc (length-slots_from (n + length b.items) bs)

abbrev pub names : List Block → List ℕ
names bs = map (λ (b : Block). b.name) bs

abbrev first_of_list : ℕ × Slot → List (ℕ × Slot) → ℕ × Slot
first_of_list e [] = e
first_of_list e (x ∷ xs) = x

absent_renewed : (bs cs : List Block) (name : ℕ) → names cs ≡ names bs → value_of (named bs) name ≡ None → value_of (named cs) name ≡ None
absent_renewed [] [] name same none = refl
absent_renewed [] (c ∷ cs) name same none = absurd (cc)
absent_renewed (b ∷ bs) [] name same none = absurd (cc)
absent_renewed (b ∷ bs) (c ∷ cs) name same none =
    let key : c.name ≡ b.name = cc in
    elim (cases_Bool (b.name == name)) [
      | inl here ↦ absurd (cc (rw here at none))
      | inr apart ↦ rw (key, apart) (absent_renewed bs cs name (cc) (rw apart at none))
    ]

-- `make` gives the first blocks their new items
module _ (g : Graph) (make : List Block → List Block) (same : (bs : List Block) → names (make bs) ≡ names bs) where
  -- the first blocks have their new items and slots, and the others are as they were
  pub record Copies (now : List (ℕ × Slot)) (place : Option ℕ) (items : List Item) (front : List Block) : Type 0 where
    pub back : List Block
    pub rest : List (ℕ × Slot)
    pub whole : g.blocks ≡ front ++ back
    pub distinct : HasDistinctKeys now
    pub entries : now ≡ slots_from 0 (make front) ++ rest
    pub links : without_starts rest ≡ slots_of back
    pub place_is : place ≡ first_key rest
    pub items_are : items ≡ items_of_blocks (make front)

  -- the same with the block at the place
  pub record CopiesAt (now : List (ℕ × Slot)) (name : ℕ) (items : List Item) (front : List Block) : Type 0 where
    pub block : Block
    pub back : List Block
    pub slot : Slot
    pub rest : List (ℕ × Slot)
    pub whole : g.blocks ≡ front ++ block ∷ back
    pub has_name : block.name ≡ name
    pub distinct : HasDistinctKeys now
    pub entries : now ≡ slots_from 0 (make front) ++ (name, slot) ∷ rest
    pub fits : slot_of 0 block ≡ record slot { start = 0 }
    pub links : without_starts rest ≡ slots_of back
    pub items_are : items ≡ items_of_blocks (make front)

  at_of : (now : List (ℕ × Slot)) (name : ℕ) (items : List Item) (front back : List Block) (rest : List (ℕ × Slot)) → g.blocks ≡ front ++ back → HasDistinctKeys now → now ≡ slots_from 0 (make front) ++ rest → without_starts rest ≡ slots_of back → Some name ≡ first_key rest
      → items ≡ items_of_blocks (make front) → CopiesAt now name items front
  at_of now name items front back [] whole distinct entries links place are = absurd (cc)
  at_of now name items front [] (e ∷ rest) whole distinct entries links place are = absurd (cc)
  at_of now name items front (b ∷ back) (e ∷ rest) whole distinct entries links place are =
      let key : name ≡ e.0 = cc in
      let pair : without_starts (e ∷ []) ≡ slots_of (b ∷ []) = cc in
      let same_key : e.0 ≡ b.name = ap (λ xs. (first_of_list e xs).0) pair in
      record {
        block = b;
        back = back;
        slot = e.1;
        rest = rest;
        whole = whole;
        has_name = sym (key ∙ same_key);
        distinct = distinct;
        entries = entries ∙ ap (λ k. slots_from 0 (make front) ++ (k, e.1) ∷ rest) (sym key);
        fits = sym (ap (λ xs. (first_of_list e xs).1) pair);
        links = cc;
        items_are = are;
      }

  pub copies_at : (now : List (ℕ × Slot)) (name : ℕ) (items : List Item) (front : List Block) → Copies now (Some name) items front → CopiesAt now name items front
  copies_at now name items front s = at_of now name items front s.back s.rest s.whole s.distinct s.entries s.links s.place_is s.items_are

  module _ (now : List (ℕ × Slot)) (name : ℕ) (items : List Item) (front : List Block) (rules : IsGraph g) (at : CopiesAt now name items front) where
    parts_named : named g.blocks ≡ named front ++ (name, at.block) ∷ named at.back
    parts_named = ap named at.whole ∙ named-append front (at.block ∷ at.back) ∙ ap (λ k. named front ++ (k, at.block) ∷ named at.back) at.has_name

    ahead_none : value_of (named front) name ≡ None
    ahead_none = absent_ahead (named front) (named at.back) name at.block (subst HasDistinctKeys parts_named rules.distinct)

    slots_none : value_of (slots_from 0 (make front)) name ≡ None
    slots_none = value_of-slots-none 0 (make front) name (absent_renewed front (make front) name (same front) ahead_none)

    pub slot_there : value_of now name ≡ Some at.slot
    slot_there = ap (λ es. value_of es name) at.entries ∙ value_of-at (slots_from 0 (make front)) at.rest name at.slot slots_none

    pub block_there : block_of g name ≡ Some at.block
    block_there = ap (λ es. value_of es name) parts_named ∙ value_of-at (named front) (named at.back) name at.block ahead_none

    pub items_there : items_of g name ≡ at.block.items
    items_there = ap block_items block_there

    pub slot_long : at.slot.length ≡ length (items_of g name)
    slot_long = sym (ap (λ (s : Slot). s.length) at.fits) ∙ sym (ap length items_there)

    -- the block has these items by now, which are pushed behind the others
    pub copies_step : (v v' : Slot) (start count : ℕ) (new items' : List Item) → make (front ++ at.block ∷ []) ≡ make front ++ record at.block { items = new } ∷ []
        → value_of now name ≡ Some v → start ≡ length items → items' ≡ items ++ new → count ≡ length new → v' ≡ record v { start = start; length = count }
        → Copies (with_value now name v') (next_key (with_value now name v') name) items' (front ++ at.block ∷ [])
    copies_step v v' start count new items' grows found start_is is count_is slot_is =
        let b' = record at.block { items = new } in
        let F = slots_from 0 (make front) in
        let value : at.slot ≡ v = cc (sym slot_there ∙ found) in
        let here : start ≡ 0 + length (items_of_blocks (make front)) = omega (arith, start_is, ap (λ (xs : List Item). length xs) at.items_are) in
        let term : v.term ≡ at.block.term = ap (λ (s : Slot). s.term) (sym value) ∙ sym (ap (λ (s : Slot). s.term) at.fits) in
        let made : v' ≡ slot_of (0 + length (items_of_blocks (make front))) (record at.block { items = new }) =
        slot_is ∙ ap (λ t. record { start = start; length = count; term = t }) term ∙ ap (λ n. record { start = start; length = n; term = at.block.term }) count_is
        ∙ ap (λ n. record { start = n; length = length new; term = at.block.term }) here in
        let old : before now name ≡ slots_from 0 (make front) = ap (λ es. before es name) at.entries ∙ before-append (slots_from 0 (make front)) at.rest name at.slot slots_none in
        let later : behind now name ≡ at.rest = ap (λ es. behind es name) at.entries ∙ behind-append (slots_from 0 (make front)) at.rest name at.slot slots_none in
        let parts : with_value now name v' ≡ slots_from 0 (make front) ++ (name, v') ∷ at.rest =
        with_value-split now name v v' found ∙ ap (λ es. es ++ (name, v') ∷ behind now name) old ∙ ap (λ es. slots_from 0 (make front) ++ (name, v') ∷ es) later in
        record {
          back = at.back;
          rest = at.rest;
          whole = at.whole ∙ sym (append_assoc front (at.block ∷ []) at.back);
          distinct = distinct-with_value now name v' at.distinct;
          entries =
              parts
              ∙ sym (append_assoc (slots_from 0 (make front)) ((name, v') ∷ []) at.rest)
              ∙ ap (λ s. (slots_from 0 (make front) ++ (name, s) ∷ []) ++ at.rest) made
              ∙ ap (λ k. (slots_from 0 (make front) ++ (k, slot_of (0 + length (items_of_blocks (make front))) (record at.block { items = new })) ∷ []) ++ at.rest) (sym at.has_name)
              ∙ ap (λ es. es ++ at.rest) (sym (slots_from-append 0 (make front) (record at.block { items = new } ∷ [])))
              ∙ ap (λ bs. slots_from 0 bs ++ at.rest) (sym grows);
          links = at.links;
          place_is =
              ap (λ es. next_key es name) parts ∙ ap (λ es. first_key es) (behind-append (slots_from 0 (make front)) at.rest name v' slots_none);
          items_are =
              is ∙ ap (λ xs. xs ++ new) at.items_are
              ∙ ap (λ xs. items_of_blocks (make front) ++ xs) (sym (append-nil new))
              ∙ sym (items_of_blocks-append (make front) (record at.block { items = new } ∷ []))
              ∙ ap (λ bs. items_of_blocks bs) (sym grows);
        }

  pub record Copied (now : List (ℕ × Slot)) (items : List Item) : Type 0 where
    pub entries : now ≡ slots_from 0 (make g.blocks)
    pub items_are : items ≡ items_of_blocks (make g.blocks)

  copied_of : (now : List (ℕ × Slot)) (items : List Item) (front back : List Block) (rest : List (ℕ × Slot)) → g.blocks ≡ front ++ back → now ≡ slots_from 0 (make front) ++ rest → without_starts rest ≡ slots_of back → None ≡ first_key rest
      → items ≡ items_of_blocks (make front) → Copied now items
  copied_of now items front back (e ∷ rest) whole entries links place are = absurd (cc)
  copied_of now items front (b ∷ back) [] whole entries links place are = absurd (cc)
  copied_of now items front [] [] whole entries links place are =
      let all : front ≡ g.blocks = sym (append-nil front) ∙ sym whole in
      record {
        entries = entries ∙ append-nil (slots_from 0 (make front)) ∙ ap (λ bs. slots_from 0 (make bs)) all;
        items_are = are ∙ ap (λ bs. items_of_blocks (make bs)) all;
      }

  pub copies_all : (now : List (ℕ × Slot)) (items : List Item) (front : List Block) → Copies now None items front → Copied now items
  copies_all now items front s = copied_of now items front s.back s.rest s.whole s.entries s.links s.place_is s.items_are

  pub copies_first : (now : List (ℕ × Slot)) (place : Option ℕ) → make [] ≡ [] → HasDistinctKeys now → without_starts now ≡ slots_of g.blocks → place ≡ first_key now → Copies now place [] []
  copies_first now place none distinct links is =
      record {
        back = g.blocks;
        rest = now;
        whole = refl;
        distinct = distinct;
        entries = ap (λ bs. slots_from 0 bs ++ now) (sym none);
        links = links;
        place_is = is;
        items_are = ap items_of_blocks (sym none);
      }
