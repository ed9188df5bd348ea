-- What the fields of a graph tell of a block.
use Rattle.std.proofs.Common.{◌≡◌, ℕ, ◌+◌, ◌≤◌, ◌==◌, false, List, [], ◌∷◌, ◌++◌, length, take, drop, Option, None, Some, is_some, vec_capacity, refl, sym, ap, ◌∙◌, inl, inr, arith, length-drop, append_assoc}
use Rattle.std.proofs.lemmas.Bool.{cases_Bool, eqb-true}
use Rattle.std.proofs.lemmas.List.{length-take-le}
use Rattle.sq_arena.specs.Entries.{value_of, ContainsKey, first_key, next_key}
use Rattle.sq_graph.specs.declared.item.Item.{Item}
use Rattle.sq_graph.specs.declared.slot.Slot.{Slot}
use Rattle.sq_graph.specs.declared.graph.Graph.TheInside.{Inside}
use Rattle.sq_graph.specs.Graph.{Block}
use Rattle.sq_graph.specs.Blocks.{named, block_of, HasBlock, first_of, next_of, items_of_blocks}
use Rattle.sq_graph.specs.Operations.{IsNew}
use Rattle.sq_graph.specs.Packed.{blocks_of}
use Rattle.sq_graph.specs.Layout.{graph_of, IsSound}
use Rattle.sq_graph.proofs.Located.{IsAt, named-append, items_of_blocks-append, value_of-at}
use Rattle.sq_graph.proofs.Strewn.{laid_ends, ends_found}

-- the arena has the same keys
pub value_of-blocks : (es : List (ℕ × Slot)) (xs : List Item) (name : ℕ) → is_some (value_of es name) ≡ is_some (value_of (named (blocks_of es xs)) name)
value_of-blocks [] xs name = refl
value_of-blocks (e ∷ es) xs name =
    elim (cases_Bool (e.0 == name)) [ inl here ↦ rw here | inr apart ↦ rw apart (value_of-blocks es xs name) ]

pub has_slot : (inside : Inside) (name : ℕ) → IsSound inside → HasBlock (graph_of inside) name → ContainsKey inside.slots.entries name
has_slot inside name sound has = value_of-blocks inside.slots.entries inside.items.items name ∙ has

-- a name with no slot is no block's
pub new_name : (inside : Inside) (name : ℕ) → value_of inside.slots.entries name ≡ None → IsNew (graph_of inside) name
new_name inside name none =
    absent (value_of (named (graph_of inside).blocks) name) (sym (value_of-blocks inside.slots.entries inside.items.items name) ∙ ap is_some none)
  where
    absent : {T : Type 0} (o : Option T) → is_some o ≡ false → o ≡ None
    absent None none = refl
    absent (Some x) none = absurd (cc)

first_key-blocks : (es : List (ℕ × Slot)) (xs : List Item) → first_key es ≡ first_key (named (blocks_of es xs))
first_key-blocks [] xs = refl
first_key-blocks (e ∷ es) xs = refl

pub first_shows : (inside : Inside) → first_key inside.slots.entries ≡ first_of (graph_of inside)
first_shows inside = first_key-blocks inside.slots.entries inside.items.items

next_key-blocks : (es : List (ℕ × Slot)) (xs : List Item) (name : ℕ) → next_key es name ≡ next_key (named (blocks_of es xs)) name
next_key-blocks [] xs name = refl
next_key-blocks (e ∷ es) xs name =
    elim (cases_Bool (e.0 == name)) [
      | inl here ↦ rw here (first_key-blocks es xs)
      | inr apart ↦ rw apart (next_key-blocks es xs name)
    ]

pub next_shows : (inside : Inside) (name : ℕ) → next_key inside.slots.entries name ≡ next_of (graph_of inside) name
next_shows inside name = next_key-blocks inside.slots.entries inside.items.items name

-- the slot of a block shows the block
pub record Reads (inside : Inside) (name : ℕ) (slot : Slot) : Type 0 where
  pub block : Block
  pub is : block_of (graph_of inside) name ≡ Some block
  pub length_is : slot.length ≡ length block.items
  pub term_is : slot.term ≡ block.term
  pub name_is : name ≡ block.name
  pub block_is : block ≡ record { name = name; items = take slot.length (drop slot.start inside.items.items); term = slot.term }
  pub within : slot.start + slot.length ≤ length inside.items.items
  pub slice : take slot.length (drop slot.start inside.items.items) ≡ block.items

pub block_at : (blocks : List Block) (name : ℕ) (at : IsAt blocks name) → value_of (named blocks) name ≡ Some at.block
block_at blocks name at =
    ap (λ bs. value_of (named bs) name) at.whole
    ∙ ap (λ es. value_of es name) (named-append at.front (at.block ∷ at.back))
    ∙ ap (λ k. value_of (named at.front ++ (k, at.block) ∷ named at.back) name) at.has_name
    ∙ value_of-at (named at.front) (named at.back) name at.block at.ahead

-- the items of all blocks, around those of one
pub items_around : (blocks : List Block) (name : ℕ) (at : IsAt blocks name) (rest : List Item) → items_of_blocks blocks ++ rest ≡ items_of_blocks at.front ++ (at.block.items ++ (items_of_blocks at.back ++ rest))
items_around blocks name at rest =
    ap (λ bs. items_of_blocks bs ++ rest) at.whole
    ∙ ap (λ is. is ++ rest) (items_of_blocks-append at.front (at.block ∷ at.back))
    ∙ append_assoc (items_of_blocks at.front) (at.block.items ++ items_of_blocks at.back) rest
    ∙ ap (λ is. items_of_blocks at.front ++ is) (append_assoc at.block.items (items_of_blocks at.back) rest)

block_found : (es : List (ℕ × Slot)) (xs : List Item) (name : ℕ) (slot : Slot) → value_of es name ≡ Some slot → value_of (named (blocks_of es xs)) name ≡ Some (record { name = name; items = take slot.length (drop slot.start xs); term = slot.term })
block_found [] xs name slot found = absurd (cc)
block_found (e ∷ es) xs name slot found =
    elim (cases_Bool (e.0 == name)) [
      | inl here ↦
          let value : e.1 ≡ slot = cc (rw here at found) in
          rw here (λ i. Some (record { name = eqb-true e.0 name here i; items = take (value i).length (drop (value i).start xs); term = (value i).term }))
      | inr apart ↦ rw apart (block_found es xs name slot (rw apart at found))
    ]

-- the slot of a block lies ahead of the bodies
pub slot_fits : (inside : Inside) (name : ℕ) (slot : Slot) → IsSound inside → value_of inside.slots.entries name ≡ Some slot → slot.start + slot.length ≤ inside.blocks_end
slot_fits inside name slot sound found =
    ends_found inside.slots.entries inside.blocks_end name slot (laid_ends inside.slots.entries inside.blocks_end inside.loose.free (vec_capacity inside.loose.scratch) sound.gaps.lie) found

pub reads : (inside : Inside) (name : ℕ) (slot : Slot) → IsSound inside → value_of inside.slots.entries name ≡ Some slot → Reads inside name slot
reads inside name slot sound found =
    let fits = slot_fits inside name slot sound found in
    let within : slot.start + slot.length ≤ length inside.items.items = omega (arith, fits, sound.gaps.within) in
    record {
      block = record { name = name; items = take slot.length (drop slot.start inside.items.items); term = slot.term };
      is = block_found inside.slots.entries inside.items.items name slot found;
      length_is = sym (length-take-le slot.length (drop slot.start inside.items.items) (omega (arith, within, length-drop slot.start inside.items.items)));
      term_is = refl;
      name_is = refl;
      block_is = refl;
      within = within;
      slice = refl;
    }
