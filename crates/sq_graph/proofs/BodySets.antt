-- What the fields show after one item of a procedure's body is another. The blocks lie ahead of all bodies, in order or not.
use Rattle.std.proofs.Common.{◌≡◌, ℕ, zero, suc, ◌+◌, ◌-◌, ◌<◌, List, [], ◌∷◌, ◌++◌, length, drop, set, vec_capacity, Vec, Global, Some, refl, sym, ap, ◌∙◌, arith}
use Rattle.std.proofs.lemmas.List.{length-set, set-append_left, set-append_right, take-set-le, drop-set-add}
use Rattle.std.specs.List.{slice_get}
use Rattle.sq_graph.specs.declared.item.Item.{Item}
use Rattle.sq_graph.specs.declared.slot.Body.{Body}
use Rattle.sq_graph.specs.declared.graph.Graph.TheInside.{Inside}
use Rattle.sq_graph.specs.Graph.{Procedure}
use Rattle.sq_graph.specs.Blocks.{items_of_bodies, procedure_body, body_of}
use Rattle.sq_graph.specs.Rules.{IsGraph}
use Rattle.sq_graph.specs.Operations.{replaced_items, procedures_with, with_body_item}
use Rattle.sq_graph.specs.Slots.{bodies_from}
use Rattle.sq_graph.specs.Packed.{blocks_of}
use Rattle.sq_graph.specs.Layout.{graph_of, IsSound}
use Rattle.sq_graph.proofs.BodyReads.{body_at, reads_body}
use Rattle.sq_graph.proofs.Held.{Shows, laid, laid_shows, limits_of}
use Rattle.sq_graph.proofs.ItemSets.{set_replaces}
use Rattle.sq_graph.proofs.Strewn.{laid_ends, blocks_ahead}

-- the body whose item is another is as long
kept_length : (xs : List Item) (at : ℕ) (item : Item) → at < length xs → length (replaced_items xs at 1 (item ∷ [])) ≡ length xs
kept_length xs at item there = ap (λ ys. length ys) (sym (set_replaces xs at item there)) ∙ length-set xs at item

-- so the bodies start where they did
bodies_kept : (n : ℕ) (ps : List Procedure) (number : ℕ) (body : Body) (at : ℕ) (item : Item) → slice_get (bodies_from n ps) number ≡ Some body → at < body.length → bodies_from n (procedures_with ps number at item) ≡ bodies_from n ps
bodies_kept n [] number body at item found there = refl
bodies_kept n (p ∷ rest) zero body at item found there =
    let long : length p.body ≡ body.length = cc in
    ap (λ m. record { link = p.link; start = n; length = m } ∷ bodies_from (n + m) rest) (kept_length p.body at item (omega (arith, there, long)))
bodies_kept n (p ∷ rest) (suc number) body at item found there =
    ap (λ bs. record { link = p.link; start = n; length = length p.body } ∷ bs) (bodies_kept (n + length p.body) rest number body at item found there)

-- the item among those of all bodies
body_set : (n : ℕ) (ps : List Procedure) (number : ℕ) (body : Body) (at place : ℕ) (item : Item) → slice_get (bodies_from n ps) number ≡ Some body → at < body.length → n + place ≡ body.start + at
    → set (items_of_bodies ps) place item ≡ items_of_bodies (procedures_with ps number at item)
body_set n [] number body at place item found there is = absurd (cc)
body_set n (p ∷ rest) zero body at place item found there is =
    let long : length p.body ≡ body.length = cc in
    let first : n ≡ body.start = cc in
    let same : place ≡ at = omega (arith, is, first) in
    ap (λ m. set (p.body ++ items_of_bodies rest) m item) same
    ∙ set-append_left p.body (items_of_bodies rest) at item (omega (arith, there, long))
    ∙ ap (λ ys. ys ++ items_of_bodies rest) (set_replaces p.body at item (omega (arith, there, long)))
body_set n (p ∷ rest) (suc number) body at place item found there is =
    let later = body_at (n + length p.body) rest number body found in
    set-append_right p.body (items_of_bodies rest) (length p.body) place item refl (omega (arith, is, later.start_is))
    ∙ ap (λ ys. p.body ++ ys) (body_set (n + length p.body) rest number body at (place - length p.body) item found there (omega (arith, is, later.start_is)))

-- the item is one of the body
pub has_body_item : (inside : Inside) (number : ℕ) (body : Body) (at : ℕ) → IsSound inside → slice_get inside.bodies.items number ≡ Some body → at < length (body_of (graph_of inside) number) → at < body.length
has_body_item inside number body at sound found there =
    let read = reads_body inside number body sound found in
    omega (arith, there, read.length_is, ap (λ o. length (procedure_body o)) read.is)

pub set_body_item_shows : (old : Inside) (number : ℕ) (body : Body) (at : ℕ) (item : Item) (items : Vec Item Global) → IsSound old → slice_get old.bodies.items number ≡ Some body → at < body.length
    → items.items ≡ set old.items.items (old.blocks_end + body.start + at) item → vec_capacity items ≡ vec_capacity old.items → IsGraph (with_body_item (graph_of old) number at item)
    → Shows (record old { items = items }) (with_body_item (graph_of old) number at item)
set_body_item_shows old number body at item items sound found there is capacity rules =
    let g = graph_of old in
    let es = old.slots.entries in
    let xs = old.items.items in
    let lays = laid old sound in
    let limits = limits_of old sound in
    let split : old.blocks_end + body.start + at ≡ old.blocks_end + (body.start + at) = omega arith in
    let long : length items.items ≡ length old.items.items = ap (λ (ys : List Item). length ys) is ∙ length-set xs (old.blocks_end + body.start + at) item in
    let its : slice_get (bodies_from 0 (graph_of old).procedures) number ≡ Some body = ap (λ bs. slice_get bs number) (sym lays.bodies) ∙ found in
    laid_shows (record old { items = items }) (with_body_item (graph_of old) number at item)
    (record {
      blocks = ap (λ ys. blocks_of es ys) is
          ∙ blocks_ahead es xs (set xs (old.blocks_end + body.start + at) item) old.blocks_end (laid_ends es old.blocks_end old.loose.free (vec_capacity old.loose.scratch) sound.gaps.lie)
          (take-set-le old.blocks_end xs (old.blocks_end + body.start + at) item (omega arith));
      lie = lays.lie;
      within = omega (arith, lays.within, long);
      counted = lays.counted;
      behind = ap (drop old.blocks_end) is
          ∙ ap (λ n. drop old.blocks_end (set xs n item)) split
          ∙ drop-set-add old.blocks_end xs (body.start + at) item
          ∙ ap (λ ys. set ys (body.start + at) item) lays.behind
          ∙ body_set 0 g.procedures number body at (body.start + at) item its there (omega arith);
      entry = refl;
      code_words = refl;
      bodies = lays.bodies ∙ sym (bodies_kept 0 g.procedures number body at item its there);
    })
    rules
    (record {
      items = omega (arith, long, sound.room.items);
      item_room = omega (arith, capacity, sound.room.item_room);
      bodies = sound.room.bodies;
      body_room = sound.room.body_room;
    })
    (record { blocks = limits.blocks; item_room = limits.item_room; body_room = limits.body_room })
