-- A graph with the blocks of a closed set alone, and the procedures that these call, follows it.
use Rattle.std.proofs.Common.{◌≡◌, ◌≢◌, ◌⊎◌, ℕ, zero, suc, ◌<◌, ◌≤◌, length, Bool, true, false, ◌==◌, if◌then◌else◌, List, [], ◌∷◌, ◌++◌, Some, None, map, slice_get, refl, sym, ap, ◌∙◌, subst, inl, inr, arith}
use Rattle.std.proofs.lemmas.Bool.{cases_Bool, eq-eqb, ne_eqb}
use Rattle.std.proofs.lemmas.List.Elements.{All-nil, All-cons, All-map, All-weaker, Contains-append_left, Contains-append_right, Contains-append_cases}
use Rattle.std.proofs.lemmas.Option.{slice_get-map}
use Rattle.std.specs.Option.{option_map}
use Rattle.std.specs.List.{All, Contains, filter, flat_map}
use Rattle.sq_arena.specs.Entries.{value_of, HasDistinctKeys}
use Rattle.sq_graph.specs.declared.item.Item.{Item}
use Rattle.sq_graph.specs.declared.item.Item.TheVariants.{Op, Hi, Lo, Out}
use Rattle.sq_graph.specs.declared.item.Term.{Term}
use Rattle.sq_graph.specs.declared.item.Term.TheVariants.{Fall, Jump, Branch, Call, PartJump, Indirect, Stop}
use Rattle.sq_graph.specs.Graph.{Block, Procedure, Graph}
use Rattle.sq_graph.specs.Blocks.{named, block_items, items_of, items_of_blocks, items_of_bodies, HasProcedure, all_items}
use Rattle.sq_graph.specs.Terms.{links, goes_on}
use Rattle.sq_graph.specs.Uses.{item_uses, item_calls, items_uses, term_uses, uses}
use Rattle.sq_graph.specs.Rules.{IsGraph}
use Rattle.sq_graph.specs.Renames.{retargeted_block, retargeted_procedure, recalled_item, recalled_items, recalled_block, recalled_procedure}
use Rattle.sq_graph.specs.Lines.{lines_of, line_of, slot_name, block_lines, place_lines}
use Rattle.sq_graph.specs.Walks.{IsLive, entry, code_word, walk, procedure_names, called_names, first_name, block_successors, successors_in, word_name, lower_names, link_names, code_targets}
use Rattle.sq_graph.specs.Soundness.{IsFreeOf, IsSoundBody, IsSound}
use Rattle.sq_graph.proofs.Bypassing.{retargeted_same}
use Rattle.law_follow.specs.Follows.{Follows}
use Rattle.law_patch.specs.Changes.{Change, Alike, IsSteady, falls}
use Rattle.law_patch.specs.Restrictions.{procedures_held, number_held, restricted, IsCalledIn, IsClosed, HoldsReached}
use Rattle.law_patch.proofs.LiveTargets.{word_target}
use Rattle.law_patch.proofs.Patch.{change_follows}
use Rattle.law_patch.proofs.Keeping.{every_carrier}
use Rattle.law_patch.proofs.Changing.{ahead, in_tail, same_map}
use Rattle.law_patch.proofs.Places.{absent_from, found_at, other_name}
use Rattle.law_patch.proofs.Moving.{moving, item_use, word_use}
use Rattle.law_patch.proofs.Dying.{lower_use}
use Rattle.law_patch.proofs.Carrying.{CallGoes, ItemGoes, SlotGoes, BlockGoes, carried_procedure, carry_inside}
use Rattle.law_patch.proofs.Layouts.{IsHeld, gone, Carries, done, stays, turns, carries_lines, carries_behind, carries_back, carried_sound}
use Rattle.law_patch.proofs.Remaining.{AlikeAt, fits_at, nothing_at, stays_at, gone_at, live_at}
use Rattle.law_patch.proofs.Used.{contains_first, contains_later, flat_contains, from_slice, slice_there, from_all, item_called, block_item, body_calls_none}

abbrev pub own : ℕ → ℕ
own n = n

same_head : {X : Type 0} (x y : X) (xs ys : List X) → x ∷ xs ≡ y ∷ ys → x ≡ y
same_head x y xs ys e = cc

-- under their own names blocks and procedures are the same
pub own_block : (b : Block) → retargeted_block own b ≡ b
own_block b =
    same_head (retargeted_block own b) b [] []
    (ap (λ (g : Graph). g.blocks) (retargeted_same (record { blocks = b ∷ []; entry = 0; code_words = []; procedures = [] })))

pub own_procedure : (p : Procedure) → retargeted_procedure own p ≡ p
own_procedure p =
    same_head (retargeted_procedure own p) p [] []
    (ap (λ (g : Graph). g.procedures) (retargeted_same (record { blocks = []; entry = 0; code_words = []; procedures = p ∷ [] })))

-- where a block leads, found by its name
pub successors_at : (ps : List Procedure) (front : List Block) (x : Block) (bs : List Block) → value_of (named front) x.name ≡ None → successors_in ps (front ++ (x ∷ bs)) x.name ≡ block_successors ps x bs
successors_at ps [] x bs e = let t : (x.name == x.name) ≡ true = eq-eqb x.name x.name refl in rw t refl
successors_at ps (y ∷ front) x bs e =
    let o = other_name (y.name == x.name) y (value_of (named front) x.name) e in rw o.0 (successors_at ps front x bs o.1)

-- an element of a flat map comes from one of the list
pub flat_from : {X Y : Type 0} (f : X → List Y) (xs : List X) (y : Y) → Contains (flat_map f xs) y → (x : X) × (Contains xs x × Contains (f x) y)
flat_from f [] y c = absurd (let l : c.0 < 0 = c.1 in omega arith)
flat_from f (x ∷ xs) y c =
    elim (Contains-append_cases (f x) (flat_map f xs) y c) [
      | inl here ↦ (x, (contains_first x xs, here))
      | inr later ↦ let o = flat_from f xs y later in (o.0, (contains_later x o.0 xs o.1.0, o.1.1))
    ]

-- an item that calls the procedure is an Out of it
call_is : (item : Item) (q : ℕ) → Contains (item_calls item) q → item ≡ Out q
call_is (Op insn) q c = absurd (let l : c.0 < 0 = c.1 in omega arith)
call_is (Hi rd to) q c = absurd (let l : c.0 < 0 = c.1 in omega arith)
call_is (Lo rd rs to) q c = absurd (let l : c.0 < 0 = c.1 in omega arith)
call_is (Out p) q (zero, l, e) = ap Out e
call_is (Out p) q (suc i, l, e) = absurd (omega arith)

pub call_among : (items : List Item) (q : ℕ) → Contains (flat_map item_calls items) q → Contains items (Out q)
call_among items q c = let o = flat_from item_calls items q c in subst (λ item. Contains items item) (call_is o.0 q o.1.1) o.1.0

-- the names that a procedure's body uses are among those to which a block leads that calls it
led_to : (ps : List Procedure) (q : ℕ) (p : Procedure) (m : ℕ) → slice_get ps q ≡ Some p → Contains (items_uses p.body) m → Contains (called_names ps (Out q)) m
led_to ps q p m e c = subst (λ o. Contains (procedure_names o) m) (sym e) c

leads_by : (ps : List Procedure) (bs : List Block) (n q : ℕ) (p : Procedure) (m : ℕ) → slice_get ps q ≡ Some p → Contains (flat_map item_calls (block_items (value_of (named bs) n))) q → Contains (items_uses p.body) m → Contains (successors_in ps bs n) m
leads_by ps [] n q p m e c d = absurd (let l : c.0 < 0 = c.1 in omega arith)
leads_by ps (x ∷ bs) n q p m e c d =
    elim (cases_Bool (x.name == n)) [
      | inl here ↦
          let called : Contains x.items (Out q) = call_among x.items q (rw here at c) in
          let led : Contains (block_successors ps x bs) m =
          Contains-append_right (term_uses x.term ++ (if goes_on x.term then first_name bs else [])) (flat_map (called_names ps) x.items) m
          (flat_contains (called_names ps) x.items (Out q) m called (led_to ps q p m e d)) in
          rw here led
      | inr apart ↦ rw apart (leads_by ps bs n q p m e (rw apart at c) d)
    ]

-- the number of a procedure that is held
held_at : (held : ℕ → Bool) (ps : List Procedure) (q : ℕ) (p : Procedure) → slice_get ps q ≡ Some p → held q ≡ true → slice_get (procedures_held held ps) (number_held held q) ≡ Some p
held_at held [] q p e h = absurd (cc)
held_at held (x ∷ ps) zero p e h = rw h e
held_at held (x ∷ ps) (suc q) p e h =
    elim (cases_Bool (held 0)) [
      | inl first ↦ rw first (held_at (λ n. held (suc n)) ps q p e h)
      | inr gone ↦ rw gone (held_at (λ n. held (suc n)) ps q p e h)
    ]

-- a procedure that is held was there under its old number
abbrev Was : (ℕ → Bool) → List Procedure → Procedure → Type 0
Was held ps p = (q : ℕ) × ((held q ≡ true) × (slice_get ps q ≡ Some p))

was_later : (held : ℕ → Bool) (x : Procedure) (ps : List Procedure) (p : Procedure) → Was (λ n. held (suc n)) ps p → Was held (x ∷ ps) p
was_later held x ps p o = (suc o.0, (o.1.0, o.1.1))

was_either : (held : ℕ → Bool) (x : Procedure) (ps ks : List Procedure) (p : Procedure) → held 0 ≡ true → Contains (x ∷ ks) p → (Contains ks p → Was (λ n. held (suc n)) ps p) → Was held (x ∷ ps) p
was_either held x ps ks p first (zero, l, e) later = (0, (first, ap Some e))
was_either held x ps ks p first (suc i, l, e) later = was_later held x ps p (later (i, omega arith, e))

pub held_was : (held : ℕ → Bool) (ps : List Procedure) (p : Procedure) → Contains (procedures_held held ps) p → Was held ps p
held_was held [] p c = absurd (let l : c.0 < 0 = c.1 in omega arith)
held_was held (x ∷ ps) p c =
    elim (cases_Bool (held 0)) [
      | inl first ↦ was_either held x ps (procedures_held (λ n. held (suc n)) ps) p first (rw first at c) (λ d. held_was (λ n. held (suc n)) ps p d)
      | inr gone ↦ was_later held x ps p (held_was (λ n. held (suc n)) ps p (rw gone at c))
    ]

-- a name that an item makes into an address is used
lower_among : (items : List Item) (m : ℕ) → Contains (flat_map lower_names items) m → Contains (items_uses items) m
lower_among [] m c = c
lower_among (Op insn ∷ items) m c = lower_among items m c
lower_among (Hi rd to ∷ items) m c = contains_later to m (items_uses items) (lower_among items m c)
lower_among (Lo rd rs to ∷ items) m (zero, l, e) = (zero, omega arith, e)
lower_among (Lo rd rs to ∷ items) m (suc i, l, e) = contains_later to m (items_uses items) (lower_among items m (i, omega arith, e))
lower_among (Out q ∷ items) m c = lower_among items m c

pub lower_recalled : (number : ℕ → ℕ) (items : List Item) → flat_map lower_names (recalled_items number items) ≡ flat_map lower_names items
lower_recalled number [] = refl
lower_recalled number (Op insn ∷ items) = lower_recalled number items
lower_recalled number (Hi rd to ∷ items) = lower_recalled number items
lower_recalled number (Lo rd rs to ∷ items) = ap (λ ns. to ∷ ns) (lower_recalled number items)
lower_recalled number (Out q ∷ items) = lower_recalled number items

-- a body is as sound under other numbers, since it calls nothing
free_recalled : (number : ℕ → ℕ) (link : ℕ) (item : Item) → IsFreeOf link (line_of item) → IsFreeOf link (line_of (recalled_item number item))
free_recalled number link (Op insn) free = free
free_recalled number link (Hi rd to) free = free
free_recalled number link (Lo rd rs to) free = free
free_recalled number link (Out q) free = absurd free

some_recalled : (number : ℕ → ℕ) (items : List Item) → items ≢ [] → recalled_items number items ≢ []
some_recalled number [] some none = some refl
some_recalled number (item ∷ items) some none = absurd (cc)

pub body_recalled : (number : ℕ → ℕ) (p : Procedure) → IsSoundBody p → IsSoundBody (recalled_procedure number p)
body_recalled number p sound = record {
  some = some_recalled number p.body sound.some;
  free = All-map {X = Item} (λ item. IsFreeOf p.link (line_of item)) (recalled_item number) p.body (All-weaker {X = Item} (λ item. IsFreeOf p.link (line_of item)) (λ item. IsFreeOf p.link (line_of (recalled_item number item))) (λ item free. free_recalled number p.link item free) p.body sound.free);
}

-- an element of a mapped list is that of an element
pub from_map_of : {X Y : Type 0} (f : X → Y) (xs : List X) (y : Y) → Contains (map f xs) y → (x : X) × (Contains xs x × (y ≡ f x))
from_map_of f [] y c = absurd (let l : c.0 < 0 = c.1 in omega arith)
from_map_of f (x ∷ xs) y (zero, l, e) = (x, (contains_first x xs, sym e))
from_map_of f (x ∷ xs) y (suc i, l, e) = let o = from_map_of f xs y (i, omega arith, e) in (o.0, (contains_later x o.0 xs o.1.0, o.1.1))

-- all of a list that each element has
pub each_has : {X : Type 0} (P : X → Type 0) (xs : List X) → ((x : X) → Contains xs x → P x) → All P xs
each_has P [] each = All-nil P
each_has P (x ∷ xs) each = All-cons P x xs (each x (contains_first x xs)) (each_has P xs (λ y c. each y (contains_later x y xs c)))

-- the next slot behind a link is a code target
link_here : (t : Bool) (n : ℕ) → t ≡ true → Contains (if t then n ∷ [] else []) n
link_here true n e = contains_first n []
link_here false n e = absurd (cc)

link_at : (front : List Block) (x next : Block) (bs : List Block) → links x.term ≡ true → Contains (link_names (front ++ (x ∷ next ∷ bs))) next.name
link_at [] x next bs l = Contains-append_left (if links x.term then next.name ∷ [] else []) (link_names (next ∷ bs)) next.name (link_here (links x.term) next.name l)
link_at (y ∷ front) x next bs l = Contains-append_right (if links y.term then first_name (front ++ (x ∷ next ∷ bs)) else []) (link_names (front ++ (x ∷ next ∷ bs))) next.name (link_at front x next bs l)

-- the code targets of a graph
pub block_target : (g : Graph) (x : Block) (m : ℕ) → Contains g.blocks x → Contains (flat_map lower_names x.items) m → Contains (code_targets g) m
block_target g x m c d =
    let ws = map word_name g.code_words in
    let bs = flat_map (λ (b : Block). flat_map lower_names b.items) g.blocks in
    let ps = flat_map (λ (p : Procedure). flat_map lower_names p.body) g.procedures in
    Contains-append_left ((ws ++ bs) ++ ps) (link_names g.blocks) m (Contains-append_left (ws ++ bs) ps m (Contains-append_right ws bs m (flat_contains (λ (b : Block). flat_map lower_names b.items) g.blocks x m c d)))

pub procedure_target : (g : Graph) (p : Procedure) (m : ℕ) → Contains g.procedures p → Contains (flat_map lower_names p.body) m → Contains (code_targets g) m
procedure_target g p m c d =
    let ws = map word_name g.code_words in
    let bs = flat_map (λ (b : Block). flat_map lower_names b.items) g.blocks in
    let ps = flat_map (λ (p : Procedure). flat_map lower_names p.body) g.procedures in
    Contains-append_left ((ws ++ bs) ++ ps) (link_names g.blocks) m (Contains-append_right (ws ++ bs) ps m (flat_contains (λ (p : Procedure). flat_map lower_names p.body) g.procedures p m c d))

pub slot_target : (g : Graph) (front : List Block) (x next : Block) (bs : List Block) → front ++ (x ∷ next ∷ bs) ≡ g.blocks → links x.term ≡ true → Contains (code_targets g) next.name
slot_target g front x next bs e l =
    let ws = map word_name g.code_words in
    let ls = flat_map (λ (b : Block). flat_map lower_names b.items) g.blocks in
    let ps = flat_map (λ (p : Procedure). flat_map lower_names p.body) g.procedures in
    Contains-append_right ((ws ++ ls) ++ ps) (link_names g.blocks) next.name (subst (λ blocks. Contains (link_names blocks) next.name) e (link_at front x next bs l))

-- the slot of a block that links
pub slot_targets : (g : Graph) (front : List Block) (x : Block) (bs : List Block) → front ++ (x ∷ bs) ≡ g.blocks → links x.term ≡ true → (m : ℕ) → Contains (first_name bs) m → Contains (code_targets g) m
slot_targets g front x [] e l m c = absurd (let k : c.0 < 0 = c.1 in omega arith)
slot_targets g front x (next ∷ bs) e l m (zero, k, i) = subst (λ n. Contains (code_targets g) n) i (slot_target g front x next bs e l)
slot_targets g front x (next ∷ bs) e l m (suc j, k, i) = absurd (omega arith)

-- a code target is used, or stands behind a link
lower_used : (g : Graph) (some : List Item) (m : ℕ) → ((item : Item) → Contains some item → Contains (all_items g) item) → Contains (flat_map lower_names some) m → Contains (uses g) m
lower_used g some m inside c = let o = lower_use some m c in item_use g o.0 m (inside o.0 o.1.0) o.1.1

pub target_from : (g : Graph) (m : ℕ) → Contains (code_targets g) m → Contains (uses g) m ⊎ Contains (link_names g.blocks) m
target_from g m c =
    let ws = map word_name g.code_words in
    let bs = flat_map (λ (b : Block). flat_map lower_names b.items) g.blocks in
    let ps = flat_map (λ (p : Procedure). flat_map lower_names p.body) g.procedures in
    elim (Contains-append_cases ((ws ++ bs) ++ ps) (link_names g.blocks) m c) [
      | inr slot ↦ inr slot
      | inl d ↦ elim (Contains-append_cases (ws ++ bs) ps m d) [
        | inr body ↦
            let o = flat_from (λ (p : Procedure). flat_map lower_names p.body) g.procedures m body in
            inl (lower_used g o.0.body m (λ item k. Contains-append_right (items_of_blocks g.blocks) (items_of_bodies g.procedures) item (flat_contains (λ (p : Procedure). p.body) g.procedures o.0 item o.1.0 k)) o.1.1)
        | inl e ↦ elim (Contains-append_cases ws bs m e) [
          | inl word ↦ inl (word_use g m word)
          | inr block ↦
              let o = flat_from (λ (b : Block). flat_map lower_names b.items) g.blocks m block in
              inl (lower_used g o.0.items m (λ item k. Contains-append_left (items_of_blocks g.blocks) (items_of_bodies g.procedures) item (flat_contains (λ (b : Block). b.items) g.blocks o.0 item o.1.0 k)) o.1.1)
        ]
      ]
    ]

pub links_goes_on : (t : Term) → links t ≡ true → goes_on t ≡ true
links_goes_on Fall l = refl
links_goes_on (Jump to) l = absurd (cc)
links_goes_on (Branch cond a b to) l = refl
links_goes_on (Call link to) l = refl
links_goes_on (PartJump link part to) l = l
links_goes_on (Indirect link at offset) l = l
links_goes_on (Stop word) l = absurd (cc)

pub falls_goes_on : (t : Term) → falls t ≡ true → goes_on t ≡ true
falls_goes_on Fall f = refl
falls_goes_on (Jump to) f = absurd (cc)
falls_goes_on (Branch cond a b to) f = refl
falls_goes_on (Call link to) f = refl
falls_goes_on (PartJump link part to) f = absurd (cc)
falls_goes_on (Indirect link at offset) f = absurd (cc)
falls_goes_on (Stop word) f = absurd (cc)

module _ (g : Graph) (keep held : ℕ → Bool) (rules : IsGraph g) (closed : IsClosed g keep held) where
  abbrev Kept : ℕ → Type 0
  Kept n = keep n ≡ true

  abbrev number : ℕ → ℕ
  number = number_held held

  abbrev h : Graph
  h = restricted keep held g

  abbrev C : Change
  C = moving ⊥ Kept own g h

  abbrev left : List Block → List Block
  left bs = map (recalled_block number) (filter (λ (b : Block). keep b.name) bs)

  absent : (front : List Block) (x : Block) (bs : List Block) → front ++ (x ∷ bs) ≡ g.blocks → value_of (named front) x.name ≡ None
  absent front x bs e = absent_from front x bs (subst (λ blocks. HasDistinctKeys (named blocks)) (sym e) rules.distinct)

  stands : (front : List Block) (x : Block) (bs : List Block) → front ++ (x ∷ bs) ≡ g.blocks → Contains g.blocks x
  stands front x bs e = subst (λ blocks. Contains blocks x) e (in_tail front (x ∷ bs) x (contains_first x bs))

  -- a block that is kept leads to such blocks
  led : (front : List Block) (x : Block) (bs : List Block) → front ++ (x ∷ bs) ≡ g.blocks → Kept x.name → (m : ℕ) → Contains (block_successors g.procedures x bs) m → Kept m
  led front x bs e k m c =
      closed.leads x.name m k
      (subst (λ blocks. Contains (successors_in g.procedures blocks x.name) m) e
      (subst (λ ns. Contains ns m) (sym (successors_at g.procedures front x bs (absent front x bs e))) c))

  names_in : (x : Block) (bs : List Block) (m : ℕ) → Contains (term_uses x.term) m → Contains (block_successors g.procedures x bs) m
  names_in x bs m c =
      Contains-append_left (term_uses x.term ++ (if goes_on x.term then first_name bs else [])) (flat_map (called_names g.procedures) x.items) m
      (Contains-append_left (term_uses x.term) (if goes_on x.term then first_name bs else []) m c)

  next_in : (x next : Block) (bs : List Block) → goes_on x.term ≡ true → Contains (block_successors g.procedures x (next ∷ bs)) next.name
  next_in x next bs goes =
      Contains-append_left (term_uses x.term ++ (if goes_on x.term then next.name ∷ [] else [])) (flat_map (called_names g.procedures) x.items) next.name
      (Contains-append_right (term_uses x.term) (if goes_on x.term then next.name ∷ [] else []) next.name (link_here (goes_on x.term) next.name goes))

  item_in : (x : Block) (bs : List Block) (item : Item) (m : ℕ) → Contains x.items item → Contains (called_names g.procedures item) m → Contains (block_successors g.procedures x bs) m
  item_in x bs item m c d =
      Contains-append_right (term_uses x.term ++ (if goes_on x.term then first_name bs else [])) (flat_map (called_names g.procedures) x.items) m
      (flat_contains (called_names g.procedures) x.items item m c d)

  items_at : (front : List Block) (x : Block) (bs : List Block) → front ++ (x ∷ bs) ≡ g.blocks → items_of g x.name ≡ x.items
  items_at front x bs e = ap block_items (subst (λ blocks. value_of (named blocks) x.name ≡ Some x) e (found_at front x bs (absent front x bs e)))

  called_by : (front : List Block) (x : Block) (bs : List Block) (q : ℕ) → front ++ (x ∷ bs) ≡ g.blocks → Kept x.name → Contains x.items (Out q) → IsCalledIn g keep q
  called_by front x bs q e k c =
      (x.name, k, flat_contains item_calls (items_of g x.name) (Out q) q (subst (λ items. Contains items (Out q)) (sym (items_at front x bs e)) c) (contains_first q []))

  -- the names that a procedure's body uses which is called
  body_kept : (q : ℕ) (p : Procedure) (m : ℕ) → IsCalledIn g keep q → slice_get g.procedures q ≡ Some p → Contains (items_uses p.body) m → Kept m
  body_kept q p m call e c = closed.leads call.0 m call.1 (leads_by g.procedures g.blocks call.0 q p m e call.2 c)

  body_goes : (q : ℕ) (p : Procedure) → IsCalledIn g keep q → slice_get g.procedures q ≡ Some p → (item : Item) → Contains p.body item → ItemGoes C number item
  body_goes q p call e (Op insn) c = tt
  body_goes q p call e (Hi rd to) c = tt
  body_goes q p call e (Lo rd rs to) c = (
    refl,
    (
      body_kept q p to call e (flat_contains item_uses p.body (Lo rd rs to) to c (contains_first to [])),
      procedure_target g p to (from_slice g.procedures q p e) (flat_contains lower_names p.body (Lo rd rs to) to c (contains_first to [])),
    ),
  )
  body_goes q p call e (Out r) c = absurd (let n : r ∷ [] ≡ [] = body_calls_none g rules p (Out r) (from_slice g.procedures q p e) c in cc)

  carried_is : (p : Procedure) → carried_procedure C number p ≡ recalled_procedure number p
  carried_is p = ap (recalled_procedure number) (own_procedure p)

  call_goes : (q : ℕ) → HasProcedure g q → IsCalledIn g keep q → CallGoes C number q
  call_goes q l call =
      let o = slice_there g.procedures q l in
      let kept : slice_get (procedures_held held g.procedures) (number q) ≡ Some o.0 = held_at held g.procedures q o.0 o.1 (closed.calls q call) in
      record {
        procedure = o.0;
        before = o.1;
        after = slice_get-map (recalled_procedure number) (procedures_held held g.procedures) (number q) ∙ ap (option_map (recalled_procedure number)) kept ∙ ap Some (sym (carried_is o.0));
        body = carry_inside C number o.0 (body_goes q o.0 call o.1);
      }

  item_goes : (front : List Block) (x : Block) (bs : List Block) → front ++ (x ∷ bs) ≡ g.blocks → Kept x.name → (item : Item) → Contains x.items item → ItemGoes C number item
  item_goes front x bs e k (Op insn) c = tt
  item_goes front x bs e k (Hi rd to) c = tt
  item_goes front x bs e k (Lo rd rs to) c = (
    refl,
    (
      led front x bs e k to (item_in x bs (Lo rd rs to) to c (contains_first to [])),
      block_target g x to (stands front x bs e) (flat_contains lower_names x.items (Lo rd rs to) to c (contains_first to [])),
    ),
  )
  item_goes front x bs e k (Out q) c =
      call_goes q (item_called g rules (Out q) q (block_item g rules x (Out q) (stands front x bs e) c) (contains_first q [])) (called_by front x bs q e k c)

  -- the next slot of a block that is kept and goes on
  next_kept : (front : List Block) (x next : Block) (bs : List Block) → front ++ (x ∷ next ∷ bs) ≡ g.blocks → Kept x.name → goes_on x.term ≡ true → Kept next.name
  next_kept front x next bs e k goes = led front x (next ∷ bs) e k next.name (next_in x next bs goes)

  slot_goes : (front : List Block) (x : Block) (bs : List Block) → front ++ (x ∷ bs) ≡ g.blocks → Kept x.name → links x.term ≡ true → SlotGoes C number (slot_name (lines_of bs)) (slot_name (lines_of (left bs)))
  slot_goes front x [] e k l = tt
  slot_goes front x (next ∷ bs) e k l =
      let kept : keep next.name ≡ true = next_kept front x next bs e k (links_goes_on x.term l) in
      rw kept (refl, (kept, slot_target g front x next bs e l))

  block_goes : (front : List Block) (x : Block) (bs : List Block) → front ++ (x ∷ bs) ≡ g.blocks → Kept x.name → BlockGoes C number x (lines_of bs) (lines_of (left bs))
  block_goes front x bs e k = record {
    items = item_goes front x bs e k;
    term = λ n c. (refl, led front x bs e k n (names_in x bs n c));
    slot = slot_goes front x bs e k;
  }

  -- where something goes on into a block, it is kept
  abbrev FirstKept : List Block → Type 0
  FirstKept [] = Unit {0}
  FirstKept (x ∷ bs) = Kept x.name

  next_first : (front : List Block) (x : Block) (bs : List Block) → front ++ (x ∷ bs) ≡ g.blocks → Kept x.name → falls x.term ≡ true → FirstKept bs
  next_first front x [] e k f = tt
  next_first front x (next ∷ bs) e k f = next_kept front x next bs e k (falls_goes_on x.term f)

  differs : (x : Block) (n : ℕ) → keep x.name ≡ false → Kept n → (x.name == n) ≡ false
  differs x n goes k = ne_eqb x.name n (λ e. let t : keep x.name ≡ true = subst (λ m. keep m ≡ true) (sym e) k in cc)

  all : (into : Bool) (front bs : List Block) → front ++ bs ≡ g.blocks → (into ≡ true → FirstKept bs) → Carries C number Kept into bs (left bs)
  all into front [] e first = done
  all into front (x ∷ bs) e first =
      elim (cases_Bool (keep x.name)) [
        | inl kept ↦
            let rest = all (falls x.term) (front ++ x ∷ []) bs (ahead front x bs ∙ e) (next_first front x bs e kept) in
            rw kept (stays x (recalled_block number x) (sym (ap (recalled_block number) (own_block x))) (block_goes front x bs e kept) rest)
        | inr goes ↦
            let rest = all false (front ++ x ∷ []) bs (ahead front x bs ∙ e) (λ i. absurd (cc)) in
            rw goes (turns (x ∷ []) [] (gone C number Kept into x bs (left bs) (λ i. let t : keep x.name ≡ true = first i in cc) (λ n k. differs x n goes k)) rest)
      ]

  every : Carries C number Kept false g.blocks h.blocks
  every = all false [] g.blocks refl (λ i. absurd (cc))

  steady : IsSteady C
  steady = record {
    carrier = every_carrier g;
    names = λ n n' j. subst (λ k. Alike C false None (block_lines g n) (block_lines h k)) (sym j.0) (carries_behind C number Kept n j.1 every);
    values = λ n n' v. (v.1.1, (v.0, v.1.0));
  }

  word_held : (i n : ℕ) → slice_get (map word_name g.code_words) i ≡ Some n → (n ≡ n) × (Kept n × Contains (code_targets g) n)
  word_held i n e =
      let c = from_slice (map word_name g.code_words) i n e in (refl, (closed.code_words n c, word_target g n c))

  pub restrict_follows : Follows g h
  restrict_follows = change_follows C steady (refl, closed.entry) refl (same_map (map word_name g.code_words)) word_held

  -- what the procedures that are held make into addresses
  bodies_held : (m : ℕ) → Contains (flat_map (λ (p : Procedure). flat_map lower_names p.body) h.procedures) m → IsHeld C number Kept m
  bodies_held m c =
      let o = flat_from (λ (p : Procedure). flat_map lower_names p.body) h.procedures m c in
      let p = from_map_of (recalled_procedure number) (procedures_held held g.procedures) o.0 o.1.0 in
      let was = held_was held g.procedures p.0 p.1.0 in
      let d : Contains (flat_map lower_names p.0.body) m =
      subst (λ ns. Contains ns m) (lower_recalled number p.0.body) (subst (λ (w : Procedure). Contains (flat_map lower_names w.body) m) p.1.1 o.1.1) in
      (m, (refl, (body_kept was.0 p.0 m (closed.called was.0 was.1.0) was.1.1 (lower_among p.0.body m d), procedure_target g p.0 m (from_slice g.procedures was.0 p.0 was.1.1) d)))

  procedures_sound : IsSound g → All IsSoundBody h.procedures
  procedures_sound sound =
      All-map IsSoundBody (recalled_procedure number) (procedures_held held g.procedures)
      (each_has (λ (p : Procedure). IsSoundBody (recalled_procedure number p)) (procedures_held held g.procedures)
      (λ p c. let was = held_was held g.procedures p c in body_recalled number p (from_all IsSoundBody g.procedures p sound.bodies (from_slice g.procedures was.0 p was.1.1))))

  -- places of blocks that are kept
  left_at : (n place : ℕ) → Kept n → place ≤ length (items_of g n) → (front bs : List Block) → front ++ bs ≡ g.blocks → AlikeAt C number n place bs (left bs)
  left_at n place k l front [] e = nothing_at C number n place
  left_at n place k l front (x ∷ bs) e =
      let further = ahead front x bs ∙ e in
      let rest = left_at n place k l (front ++ x ∷ []) bs further in
      elim (cases_Bool (keep x.name)) [
        | inl kept ↦
            rw kept (stays_at C number n place x (recalled_block number x) bs (left bs) (sym (ap (recalled_block number) (own_block x))) (block_goes front x bs e kept) (fits_at g rules n place l front x bs e)
            (λ f. carries_lines C number Kept true refl (all true (front ++ x ∷ []) bs further (λ i. next_first front x bs e kept f))) rest)
        | inr goes ↦ rw goes (gone_at C number n place x bs (left bs) (differs x n goes k) rest)
      ]

  words_held : (m : ℕ) → Contains (map word_name g.code_words) m → IsHeld C number Kept m
  words_held m c = (m, (refl, (closed.code_words m c, word_target g m c)))

  -- no more is live at a place of a block that is kept
  pub restrict_live : (n place r : ℕ) → Kept n → place ≤ length (items_of g n) → IsLive h r (place_lines h n place) → IsLive g r (place_lines g n place)
  restrict_live n place r k l live =
      live_at C number (carries_back C number Kept steady (λ xs r l. tt) tt every words_held bodies_held) n place r (left_at n place k l [] g.blocks refl) live

  pub restrict_sound : IsSound g → IsSound h
  restrict_sound sound =
      carried_sound C number Kept steady (λ xs r l. tt) tt every
      words_held bodies_held sound (procedures_sound sound)

pub reached_closed : (g : Graph) (keep held : ℕ → Bool) → HoldsReached g keep held → IsClosed g keep held
reached_closed g keep held exact = record {
  entry = exact.kept g.entry entry;
  code_words = λ n c. exact.kept n (code_word c);
  leads = λ n m k c. exact.kept m (walk (exact.reached n k) c);
  calls = exact.calls;
  called = exact.called;
}
