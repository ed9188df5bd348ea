-- The blocks of a graph by what decides where they stand.
use Rattle.std.proofs.Common.{◌≡◌, ◌≢◌, ℕ, ◌+◌, ◌≤◌, ◌<◌, ◌^◌, ◌==◌, inl, inr, List, [], ◌∷◌, map, drop, length, get_or, slice_get, Option, None, Some, IsSome, refl, sym, ap, ◌∙◌, subst, arith}
use Rattle.std.specs.Prelude.{option_map}
use Rattle.std.proofs.lemmas.Bool.{cases_Bool, cases_lt, eqb-true}
use Rattle.std.proofs.lemmas.List.{length-map, get_or-map}
use Rattle.std.proofs.lemmas.Option.{slice_get-map, slice_get-get_or}
use Rattle.sq_arena.specs.Entries.{value_of}
use Rattle.sq_graph.specs.declared.item.Term.TheVariants.{Jump}
use Rattle.sq_graph.specs.declared.slot.Slot.{Slot}
use Rattle.sq_graph.specs.Graph.{Block, Graph}
use Rattle.sq_graph.specs.Blocks.{HasBlock, named, block_of, next_of}
use Rattle.sq_graph.specs.Parts.{names_of}
use Rattle.sq_graph.specs.Rules.{IsGraph}
use Rattle.sq_graph.specs.Slots.{slots_of, without_starts}
use Rattle.sq_graph.specs.Words.{term_words, words_of}
use Rattle.std.specs.List.{All}
use Rattle.std.proofs.lemmas.List.Elements.{All-get_or}
use Rattle.sq_chain.specs.Places.{placed_at}
use Rattle.sq_lookup.proofs.Targets.{name_listed, has_term}
use Rattle.sq_live.proofs.Layouts.{IsBlockAt, block_at, length-names}
use Rattle.sq_chain.specs.declared.survey.Extent.{Extent}
use Rattle.sq_chain.specs.Moves.{chain_end, IsMovable, fallen_blocks, fallen, carried}
use Rattle.sq_chain.specs.Surveys.{extent_of, extents_of, AreBelow, IsRoom, IsLaidOut}
use Rattle.sq_chain.proofs.Carried.{carried_words}
use Rattle.sq_chain.proofs.Fallen.{fallen_keeps}
use Rattle.sq_chain.proofs.Lighter.{fallen_names}
use Rattle.sq_chain.proofs.Orders.{next_listed, found_at, last_has, chain_on, past_to}
use Rattle.sq_chain.proofs.Reordered.{chain_moved_rules, chain_reordered}

names_mapped : (bs : List Block) → map (λ (e : Extent). e.name) (map extent_of bs) ≡ map (λ (b : Block). b.name) bs
names_mapped [] = refl
names_mapped (b ∷ bs) = ap (λ (ns : List ℕ). b.name ∷ ns) (names_mapped bs)

-- their names
pub extent_names : (g : Graph) (order : List Extent) → order ≡ extents_of g → map (λ (e : Extent). e.name) order ≡ names_of g
extent_names g order e = ap (map (λ (x : Extent). x.name)) e ∙ names_mapped g.blocks

pub extents_length : (g : Graph) (order : List Extent) → order ≡ extents_of g → length order ≡ length g.blocks
extents_length g order e = ap (λ (es : List Extent). length es) e ∙ length-map g.blocks extent_of

same_extent : (x y : Extent) → Some x ≡ Some y → x ≡ y
same_extent x y e = cc

-- what a call tells of a block
pub extent_here : (g : Graph) (name : ℕ) (b : Block) (e : Extent) → block_of g name ≡ Some b → option_map extent_of (block_of g name) ≡ Some e → extent_of b ≡ e
extent_here g name b e found told = same_extent (extent_of b) e (sym (ap (option_map extent_of) found) ∙ told)

-- and its slot
abbrev pub extent_in : ℕ → Slot → Extent
extent_in name slot = record { name = name; words = slot.length + term_words slot.term; term = slot.term }

abbrev first_extent : List (ℕ × Slot) → Option Extent
first_extent [] = None
first_extent (e ∷ es) = Some (extent_in e.0 e.1)

pub slot_extent : (es : List (ℕ × Slot)) (bs : List Block) (name : ℕ) (slot : Slot) → without_starts es ≡ slots_of bs → value_of es name ≡ Some slot → option_map extent_of (value_of (named bs) name) ≡ Some (extent_in name slot)
slot_extent [] bs name slot links found = absurd (cc)
slot_extent (e ∷ es) [] name slot links found = absurd (cc)
slot_extent (e ∷ es) (b ∷ bs) name slot links found =
    let first = same_extent (extent_in e.0 e.1) (extent_of b) (ap first_extent links) in
    let rest : without_starts es ≡ slots_of bs = ap (drop 1) links in
    let key = ap (λ (x : Extent). x.name == name) first in
    elim (cases_Bool (b.name == name)) [
      | inl here ↦
          let value : e.1 ≡ slot = cc (rw (key, here) at found) in
          let named : e.0 ≡ name = eqb-true e.0 name (key ∙ here) in
          rw here (ap Some (sym first ∙ ap (extent_in e.0) value ∙ ap (λ n. extent_in n slot) named))
      | inr apart ↦ rw apart (slot_extent es bs name slot rest (rw (key, apart) at found))
    ]

-- the block at a place
pub record IsExtentAt (g : Graph) (order : List Extent) (k : ℕ) (e : Extent) : Type 0 where
  pub at : IsBlockAt g k (get_or (names_of g) k 0)
  pub is : extent_of at.block ≡ e
  pub named : at.block.name ≡ e.name
  pub found : block_of g at.block.name ≡ Some at.block
  pub next : next_of g at.block.name ≡ option_map (λ (x : Extent). x.name) (slice_get order (k + 1))

pub extent_at : (g : Graph) (order : List Extent) (k : ℕ) (x : Extent) → IsGraph g → order ≡ extents_of g → k < length order → x ≡ get_or order k x → IsExtentAt g order k x
extent_at g order k x rules e within here =
    let within' : k < length (names_of g) = subst (λ (n : ℕ). k < n) (extents_length g order e ∙ sym (length-names g (names_of g) refl)) within in
    let b = block_at g (names_of g) k rules refl within' in
    let got : slice_get order k ≡ Some (extent_of b.block) = ap (λ (es : List Extent). slice_get es k) e ∙ slice_get-map extent_of g.blocks k ∙ ap (option_map extent_of) b.at in
    let is : extent_of b.block ≡ x = same_extent (extent_of b.block) (get_or order k x) (sym got ∙ slice_get-get_or order k x within) ∙ sym here in
    record {
      at = b;
      is = is;
      named = ap (λ (y : Extent). y.name) is;
      found = subst (λ (n : ℕ). block_of g n ≡ Some b.block) (sym b.has_name) b.found;
      next =
          ap (next_of g) b.has_name ∙ next_listed g rules k (get_or (names_of g) k 0) b
          ∙ ap (λ (ns : List ℕ). slice_get ns (k + 1)) (sym (extent_names g order e))
          ∙ slice_get-map (λ (y : Extent). y.name) order (k + 1);
    }

-- a block is among them
pub name_at : (g : Graph) (order : List Extent) (n : ℕ) → order ≡ extents_of g → HasBlock g n → (k : ℕ) × (k < length order) × (get_or (map (λ (e : Extent). e.name) order) k 0 ≡ n)
name_at g order n e has =
    let w = subst (λ (ns : List ℕ). (k : ℕ) × (k < length ns) × (get_or ns k 0 ≡ n)) (sym (extent_names g order e)) (name_listed g.blocks n has) in
    (w.0, subst (λ (len : ℕ). w.0 < len) (length-map order (λ (x : Extent). x.name)) w.1, w.2)

pub found_among : (g : Graph) (order : List Extent) (k n : ℕ) → IsGraph g → order ≡ extents_of g → k < length order → get_or (map (λ (e : Extent). e.name) order) k 0 ≡ n → IsBlockAt g k n
found_among g order k n rules e within there =
    found_at g (map (λ (x : Extent). x.name) order) k n rules (extent_names g order e) (subst (λ (len : ℕ). k < len) (sym (length-map order (λ (x : Extent). x.name))) within) there

-- the name of the block at a place
pub named_at : (order : List Extent) (i : ℕ) (x : Extent) → i < length order → (get_or order i x).name ≡ get_or (map (λ (e : Extent). e.name) order) i 0
named_at order i x within = sym (get_or-map (λ (e : Extent). e.name) order i x 0 within)

-- a name that isn't that block's, nor that of one ahead of it
pub not_among : (order : List Extent) (i n : ℕ) (x : Extent) → i < length order → (get_or order i x).name ≢ n → (k : ℕ) → (k < i → get_or (map (λ (e : Extent). e.name) order) k 0 ≢ n) → k < i + 1 → get_or (map (λ (e : Extent). e.name) order) k 0 ≢ n
not_among order i n x within other k ahead below same =
    elim (cases_lt k i) [
      | inl less ↦ ahead less same
      | inr more ↦
          let here : i ≡ k = omega (arith, below, more) in
          other (named_at order i x within ∙ ap (λ j. get_or (map (λ (e : Extent). e.name) order) j 0) here ∙ same)
    ]

-- a place of a name that isn't ahead of this one
abbrev pub IsFrom : List Extent → ℕ → ℕ → Type 0
IsFrom order first n = (k : ℕ) × (first ≤ k) × (k < length order) × (get_or (map (λ (e : Extent). e.name) order) k 0 ≡ n)

module _ (g : Graph) (from to : ℕ) (order : List Extent) (rules : IsGraph g) (movable : IsMovable g from to) (listed : order ≡ extents_of g) (i : ℕ) (at_to : IsBlockAt g i to) where
  -- the end of a chain isn't ahead of its start
  pub end_from : IsFrom order i (chain_end g to)
  end_from =
      let w = name_at g order (chain_end g to) listed (last_has g from to rules movable) in
      let at_last = found_among g order w.0 (chain_end g to) rules listed w.1 w.2 in
      (w.0, chain_on g from to rules movable i w.0 at_to at_last, w.1, w.2)

  -- and the Jump to it is behind that end where it isn't ahead of the start
  pub jump_from : (j : ℕ) → IsBlockAt g j (chain_end g to) → ((k : ℕ) → get_or (map (λ (e : Extent). e.name) order) k 0 ≡ from → i ≤ k) → IsFrom order j from
  jump_from j at_last behind =
      let w = name_at g order from listed (has_term g from (Jump to) movable.jump) in
      let at_from = found_among g order w.0 from rules listed w.1 w.2 in
      let past = past_to g from to rules movable i j at_to at_last w.0 at_from (behind w.0 w.2) in
      (w.0, omega (arith, past), w.1, w.2)

-- the names of all blocks are less than what is greater than each that is listed
pub below_is : (g : Graph) (names : ℕ) → All (λ (n : ℕ). n < names) (names_of g) → AreBelow names g
below_is g names all n has =
    let w = name_listed g.blocks n has in
    subst (λ (m : ℕ). m < names) w.2 (All-get_or (λ (m : ℕ). m < names) (names_of g) w.0 0 w.1 all)

-- there is room for each where all names are less than there is room for
pub room_is : (g : Graph) (names : ℕ) (room : List ℕ) → AreBelow names g → names ≤ length room → ((n : ℕ) → placed_at room n ≡ None) → IsRoom g room
room_is g names room below enough none = record {
  within = λ n has. omega (arith, below n has, enough);
  none = none;
}

-- and what it is once each Jump to the next slot is Fall
pub record IsFallingAt (g : Graph) (order : List Extent) (k : ℕ) (e : Extent) : Type 0 where
  pub here : IsExtentAt g order k e
  pub block : Block
  pub named : block.name ≡ e.name
  pub found : block_of (fallen g) here.at.block.name ≡ Some block
  pub rest : drop k (fallen_blocks g.blocks) ≡ block ∷ drop (k + 1) (fallen_blocks g.blocks)

pub falling_at : (g : Graph) (order : List Extent) (k : ℕ) (x : Extent) → IsGraph g → order ≡ extents_of g → k < length order → x ≡ get_or order k x → IsFallingAt g order k x
falling_at g order k x rules e within is =
    let here = extent_at g order k x rules e within is in
    let within' : k < length (names_of g) = subst (λ (n : ℕ). k < n) (extents_length g order e ∙ sym (length-names g (names_of g) refl)) within in
    let f = block_at (fallen g) (names_of g) k (fallen_keeps g rules).rules (sym (fallen_names g)) within' in
    let same : get_or (names_of g) k 0 ≡ here.at.block.name = sym here.at.has_name in
    record {
      here = here;
      block = f.block;
      named = f.has_name ∙ same ∙ here.named;
      found = subst (λ (n : ℕ). block_of (fallen g) n ≡ Some f.block) same f.found;
      rest = f.rest;
    }

-- once a chain stands behind the Jump to it
module _ (g : Graph) (from to : ℕ) (rules : IsGraph g) (movable : IsMovable g from to) where
  pub carried_laid : (order : List Extent) → words_of g < 2 ^ 31 → order ≡ extents_of (carried g from to) → IsLaidOut (carried g from to) order
  carried_laid order few e = record {
    rules = chain_moved_rules g from to rules movable;
    few = omega (arith, few, carried_words g from to rules movable);
    listed = e;
  }

  pub carried_below : (names : ℕ) → AreBelow names g → AreBelow names (carried g from to)
  carried_below names below n has = below n (subst (λ (o : Option Block). IsSome o) ((chain_reordered g from to rules movable).same n) has)
