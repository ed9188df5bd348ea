-- What the fields show after a call that adds a procedure or puts a body in the place of an Out.
use Rattle.std.proofs.Common.{◌≡◌, ℕ, ◌+◌, ◌-◌, ◌≤◌, ◌<◌, List, [], ◌∷◌, ◌++◌, length, take, drop, get_or, vec_capacity, Vec, Global, Option, None, Some, IsSome, is_some, refl, sym, ap, ◌∙◌, subst, inl, inr, arith, length-append, length-drop}
use Rattle.std.proofs.lemmas.Bool.{cases_lt}
use Rattle.std.proofs.lemmas.List.{append-nil, drop-drop, drop-append-le, take-append-le, take-take, drop-take, length-take-le, get_or-append-add, get_or_append_left}
use Rattle.std.proofs.lemmas.List.Elements.{All-head, All-get_or}
use Rattle.std.proofs.lemmas.Option.{slice_get-get_or, slice_get_past}
use Rattle.std.proofs.lemmas.List.Concat.{flat_map-append}
use Rattle.std.specs.List.{All, flat_map, slice_get, slice_range}
use Rattle.sq_arena.specs.Entries.{value_of}
use Rattle.sq_graph.specs.declared.item.Item.{Item}
use Rattle.sq_graph.specs.declared.item.Item.TheVariants.{Op, Hi, Lo, Out}
use Rattle.sq_graph.specs.declared.slot.Slot.{Slot}
use Rattle.sq_graph.specs.declared.slot.Body.{Body}
use Rattle.sq_graph.specs.declared.graph.Graph.TheInside.{Inside}
use Rattle.sq_graph.specs.Graph.{Procedure, Graph}
use Rattle.sq_graph.specs.Blocks.{HasProcedure, procedure_body, block_items, items_of, items_of_blocks, items_of_bodies}
use Rattle.sq_graph.specs.Uses.{item_calls}
use Rattle.sq_graph.specs.Rules.{IsGraph}
use Rattle.sq_graph.specs.Operations.{call_of, called_at, called_body, outlined}
use Rattle.sq_graph.specs.Slots.{bodies_from}
use Rattle.sq_graph.specs.Layout.{graph_of, IsSound}
use Rattle.sq_graph.proofs.Eachs.{All-each}
use Rattle.sq_graph.proofs.SlotReads.{reads}
use Rattle.sq_graph.proofs.Strewn.{laid_ends, blocks_ahead}
use Rattle.sq_graph.proofs.BodyReads.{reads_body}
use Rattle.sq_graph.proofs.Held.{Shows, laid, laid_shows, limits_of}
use Rattle.sq_graph.proofs.Tight.{IsTight}
use Rattle.sq_graph.proofs.ItemWrites.{Placed}

pub items_of_bodies-append : (ps qs : List Procedure) → items_of_bodies (ps ++ qs) ≡ items_of_bodies ps ++ items_of_bodies qs
items_of_bodies-append ps qs = flat_map-append (λ p. p.body) ps qs

pub bodies_from-append : (n : ℕ) (ps qs : List Procedure) → bodies_from n (ps ++ qs) ≡ bodies_from n ps ++ bodies_from (n + length (items_of_bodies ps)) qs
bodies_from-append n [] qs = let e : n + 0 ≡ n = omega arith in rw e
bodies_from-append n (p ∷ ps) qs =
    let e : n + length p.body + length (items_of_bodies ps) ≡ n + length (p.body ++ items_of_bodies ps) = omega (arith, length-append p.body (items_of_bodies ps)) in
    ap (λ bs. record { link = p.link; start = n; length = length p.body } ∷ bs) (bodies_from-append (n + length p.body) ps qs ∙ ap (λ m. bodies_from (n + length p.body) ps ++ bodies_from m qs) e)

-- some items of a block, in the vector and in the block
outlined_piece : (old : Inside) (name : ℕ) (slot : Slot) (at count : ℕ) → IsSound old → value_of old.slots.entries name ≡ Some slot → at + count ≤ length (items_of (graph_of old) name)
    → (take count (drop (slot.start + at) old.items.items) ≡ slice_range (items_of (graph_of old) name) at (at + count)) × (slot.start + at + count ≤ length old.items.items)
outlined_piece old name slot at count sound found fits =
    let read = reads old name slot sound found in
    let is : items_of (graph_of old) name ≡ take slot.length (drop slot.start old.items.items) = ap (λ o. block_items o) read.is ∙ sym read.slice in
    let there : at + count ≤ slot.length = omega (arith, fits, read.length_is, ap (λ o. length (block_items o)) read.is) in
    let more : at + (slot.length - at) ≡ slot.length = omega (arith, there) in
    let left : at + count - at ≡ count = omega arith in (
      ap (take count) (sym (drop-drop at slot.start old.items.items))
          ∙ sym (take-take count (slot.length - at) (drop at (drop slot.start old.items.items)) (omega (arith, there)))
          ∙ ap (take count) (sym (drop-take at (slot.length - at) (drop slot.start old.items.items)) ∙ ap (λ n. drop at (take n (drop slot.start old.items.items))) more)
          ∙ ap (λ n. take n (drop at (take slot.length (drop slot.start old.items.items)))) (sym left)
          ∙ ap (λ ys. take (at + count - at) (drop at ys)) (sym is),
      omega (arith, there, read.within),
    )

pub outline_shows : (old : Inside) (name : ℕ) (slot : Slot) (at count link start : ℕ) (items : Vec Item Global) (bodies : Vec Body Global)
    → IsSound old → value_of old.slots.entries name ≡ Some slot
    → at + count ≤ length (items_of (graph_of old) name)
    → length old.items.items + count ≤ old.item_room → 0 < old.body_room - length old.bodies.items
    → start ≡ length old.items.items - old.blocks_end
    → items.items ≡ old.items.items ++ take count (drop (slot.start + at) old.items.items) → vec_capacity old.items ≤ vec_capacity items
    → bodies.items ≡ old.bodies.items ++ record { link = link; start = start; length = count } ∷ [] → vec_capacity bodies ≡ vec_capacity old.bodies
    → IsGraph (outlined (graph_of old) name at count link)
    → Shows (record old { items = items; bodies = bodies }) (outlined (graph_of old) name at count link)
outline_shows old name slot at count link start items bodies sound found fits room body_room start_is is capacity bodies_are body_capacity rules =
    let g = graph_of old in
    let xs = old.items.items in
    let lays = laid old sound in
    let limits = limits_of old sound in
    let body = slice_range (items_of (graph_of old) name) at (at + count) in
    let proc : Procedure = record { link = link; body = slice_range (items_of (graph_of old) name) at (at + count) } in
    let piece = outlined_piece old name slot at count sound found fits in
    let all : items.items ≡ old.items.items ++ slice_range (items_of (graph_of old) name) at (at + count) = is ∙ ap (λ ys. xs ++ ys) piece.0 in
    let long : length (slice_range (items_of (graph_of old) name) at (at + count)) ≡ count =
    ap (λ ys. length ys) (sym piece.0) ∙ length-take-le count (drop (slot.start + at) xs) (omega (arith, piece.1, length-drop (slot.start + at) xs)) in
    let whole : length items.items ≡ length old.items.items + count = omega (arith, ap (λ ys. length ys) all, length-append xs body, long) in
    let first : 0 + length (items_of_bodies g.procedures) ≡ start =
    omega (arith, start_is, ap (λ ys. length ys) lays.behind, length-drop old.blocks_end old.items.items) in
    laid_shows (record old { items = items; bodies = bodies }) (outlined (graph_of old) name at count link)
    (record {
      blocks =
          rw all (blocks_ahead old.slots.entries xs (xs ++ body) old.blocks_end (laid_ends old.slots.entries old.blocks_end old.loose.free (vec_capacity old.loose.scratch) sound.gaps.lie) (take-append-le old.blocks_end xs body lays.within));
      lie = sound.gaps.lie;
      within = omega (arith, lays.within, whole);
      counted = lays.counted;
      behind =
          ap (drop old.blocks_end) all
          ∙ drop-append-le old.blocks_end xs body lays.within
          ∙ ap (λ ys. ys ++ body) lays.behind
          ∙ ap (λ ys. items_of_bodies g.procedures ++ ys) (sym (append-nil body))
          ∙ sym (items_of_bodies-append g.procedures (proc ∷ []));
      entry = refl;
      code_words = refl;
      bodies = bodies_are
          ∙ ap (λ bs. bs ++ record { link = link; start = start; length = count } ∷ []) lays.bodies
          ∙ ap (λ n. bodies_from 0 g.procedures ++ record { link = link; start = n; length = count } ∷ []) (sym first)
          ∙ ap (λ n. bodies_from 0 g.procedures ++ record { link = link; start = 0 + length (items_of_bodies g.procedures); length = n } ∷ []) (sym long)
          ∙ sym (bodies_from-append 0 g.procedures (proc ∷ []));
    })
    rules
    (record {
      items = omega (arith, room, whole);
      item_room = omega (arith, capacity, sound.room.item_room);
      bodies = omega (arith, body_room, sound.room.bodies, ap (λ bs. length bs) bodies_are, length-append old.bodies.items (record { link = link; start = start; length = count } ∷ []));
      body_room = omega (arith, body_capacity, sound.room.body_room);
    })
    (record { blocks = limits.blocks; item_room = limits.item_room; body_room = limits.body_room })

-- the item of a block at a place, in the vector
pub item_of_block : (old : Inside) (name : ℕ) (slot : Slot) (at : ℕ) (d : Item) (p : Placed old name slot) → at < length (items_of (graph_of old) name) → slice_get (items_of (graph_of old) name) at ≡ Some (get_or old.items.items (slot.start + at) d)
item_of_block old name slot at d p inside =
    let front = items_of_blocks p.at.front in
    let xs = p.at.block.items in
    let rest = items_of_blocks p.at.back ++ items_of_bodies (graph_of old).procedures in
    let there : at < length p.at.block.items = omega (arith, inside, p.counted, p.length_is) in
    let read : get_or old.items.items (slot.start + at) d ≡ get_or p.at.block.items at d =
    ap (λ ys. get_or ys (slot.start + at) d) p.whole
    ∙ ap (λ n. get_or (front ++ (xs ++ rest)) (n + at) d) p.start_is
    ∙ get_or-append-add front (xs ++ rest) at d
    ∙ get_or_append_left xs rest d at there in
    ap (λ ys. slice_get ys at) p.items_is ∙ slice_get-get_or xs at d there ∙ ap Some (sym read)

-- an Out stands within its block
pub called_inside : (g : Graph) (name at : ℕ) → IsSome (called_at g name at) → at < length (items_of g name)
called_inside g name at some =
    elim (cases_lt at (length (items_of g name))) [
      | inl inside ↦ inside
      | inr past ↦
          let none : called_at g name at ≡ None = ap call_of (slice_get_past (items_of g name) at past) in
          absurd (cc (ap is_some none, some))
    ]

-- the procedure that an item calls is there
pub called_there : (old : Inside) (place procedure : ℕ) (d : Item) → IsTight old → place < length old.items.items → call_of (Some (get_or old.items.items place d)) ≡ Some procedure → HasProcedure (graph_of old) procedure
called_there old place procedure d tight inside called =
    let each = All-each (HasProcedure (graph_of old)) item_calls old.items.items (subst (λ (is : List Item). All (HasProcedure (graph_of old)) (flat_map item_calls is)) (sym tight.holds.items) tight.rules.called_all) in
    let here = All-get_or {X = Item} (λ item. All (HasProcedure (graph_of old)) (item_calls item)) old.items.items place d inside each in
    calls_it (get_or old.items.items place d) called here
  where
    calls_it : (item : Item) → call_of (Some item) ≡ Some procedure → All (HasProcedure (graph_of old)) (item_calls item) → HasProcedure (graph_of old) procedure
    calls_it (Op insn) called all = absurd (cc)
    calls_it (Hi rd to) called all = absurd (cc)
    calls_it (Lo rd rs to) called all = absurd (cc)
    calls_it (Out p) called all =
        let same : p ≡ procedure = cc in
        subst (HasProcedure (graph_of old)) same (All-head (HasProcedure (graph_of old)) p [] all)

-- the procedure that the Out at a place calls, as the vectors have it
pub record Inlines (old : Inside) (name at procedure : ℕ) (body : Body) : Type 0 where
  pub called : called_at (graph_of old) name at ≡ Some procedure
  pub by_is : take body.length (drop (old.blocks_end + body.start) old.items.items) ≡ called_body (graph_of old) (called_at (graph_of old) name at)
  pub counted : body.length ≡ length (called_body (graph_of old) (called_at (graph_of old) name at))
  pub within : old.blocks_end + body.start + body.length ≤ length old.items.items

pub inlines : (old : Inside) (name at procedure : ℕ) (body : Body) → IsTight old → called_at (graph_of old) name at ≡ Some procedure → slice_get old.bodies.items procedure ≡ Some body → Inlines old name at procedure body
inlines old name at procedure body tight called found =
    let shown = reads_body old procedure body tight.sound found in
    let is : called_body (graph_of old) (called_at (graph_of old) name at) ≡ shown.procedure.body = ap (λ o. called_body (graph_of old) o) called ∙ ap procedure_body shown.is in
    record {
      called = called;
      by_is = shown.slice ∙ sym is;
      counted = shown.length_is ∙ ap (λ ys. length ys) (sym is);
      within = shown.within;
    }

pub outline_spare : (xs ys : List Item) (start at count : ℕ) → count + (start + at) ≤ length xs → ys ≡ xs ++ take count (drop (start + at) xs) → length ys ≡ length xs + count
outline_spare xs ys start at count fits is =
    let there : count ≤ length (drop (start + at) xs) = omega (arith, fits, length-drop (start + at) xs) in
    omega (arith, ap (λ zs. length zs) is, length-append xs (take count (drop (start + at) xs)), length-take-le count (drop (start + at) xs) there)

-- what the item that was read calls
pub called_is : (old : Inside) (name : ℕ) (slot : Slot) (at : ℕ) (item : Item) (o : Option ℕ) → Placed old name slot → IsSome (called_at (graph_of old) name at) → item ≡ get_or old.items.items (slot.start + at) item → o ≡ call_of (Some item) → called_at (graph_of old) name at ≡ o
called_is old name slot at item o p some read is =
    let inside = called_inside (graph_of old) name at some in
    ap call_of (item_of_block old name slot at item p inside) ∙ ap (λ i. call_of (Some i)) (sym read) ∙ sym is

pub called_exists : (old : Inside) (name : ℕ) (slot : Slot) (at : ℕ) (item : Item) (o : Option ℕ) (procedure : ℕ) → IsTight old → Placed old name slot → IsSome (called_at (graph_of old) name at) → item ≡ get_or old.items.items (slot.start + at) item → o ≡ call_of (Some item) → o ≡ Some procedure → procedure < length old.bodies.items
called_exists old name slot at item o procedure tight p some read is called =
    let inside = called_inside (graph_of old) name at some in
    let place : slot.start + at < length old.items.items = omega (arith, inside, p.counted, p.size) in
    omega (arith, called_there old (slot.start + at) procedure item tight place (ap (λ i. call_of (Some i)) (sym read) ∙ sym is ∙ called), p.sizes.counted)
