-- What the fields show after a procedure is taken out.
use Rattle.std.proofs.Common.{◌≡◌, ℕ, suc, ◌+◌, ◌-◌, ◌≤◌, ◌<◌, List, [], ◌∷◌, ◌++◌, map, length, take, drop, remove, vec_capacity, Vec, Global, Some, refl, sym, ap, ◌∙◌, subst, arith, length-append, length-drop, append_assoc}
use Rattle.std.proofs.lemmas.List.{take_at, drop_at, map-id, length-map, length-take-le, take-append-drop}
use Rattle.std.proofs.lemmas.List.Edits.{length-remove}
use Rattle.std.proofs.lemmas.List.Elements.{All-nil, All-cons}
use Rattle.std.specs.List.{All, slice_get}
use Rattle.sq_graph.specs.declared.item.Item.{Item}
use Rattle.sq_graph.specs.declared.slot.Body.{Body}
use Rattle.sq_graph.specs.declared.graph.Graph.TheInside.{Inside}
use Rattle.sq_graph.specs.Graph.{Procedure, Graph}
use Rattle.sq_graph.specs.Blocks.{body_of, procedure_body, items_of_blocks, items_of_bodies}
use Rattle.sq_graph.specs.Renames.{recalled_item, lowered}
use Rattle.sq_graph.specs.Rules.{IsGraph}
use Rattle.sq_graph.specs.Operations.{without_procedure}
use Rattle.sq_graph.specs.Slots.{bodies_from, lowered_body}
use Rattle.sq_graph.specs.Layout.{graph_of}
use Rattle.sq_graph.proofs.BodyReads.{IsAtNumber, body_at, reads_body}
use Rattle.sq_graph.proofs.ProcedureWrites.{items_of_bodies-append, bodies_from-append}
use Rattle.sq_graph.proofs.Held.{Shows, length-bodies_from}
use Rattle.sq_graph.proofs.Tight.{IsTight, limited}
use Rattle.sq_graph.proofs.MapWrites.{mapped_holds}

bodies_from-lowered : (n k : ℕ) (ps : List Procedure) → map (lowered_body k) (bodies_from (n + k) ps) ≡ bodies_from n ps
bodies_from-lowered n k [] = refl
bodies_from-lowered n k (p ∷ ps) =
    let here : n + k - k ≡ n = omega arith in
    let next : n + k + length p.body ≡ n + length p.body + k = omega arith in
    ap (λ s. record { link = p.link; start = s; length = length p.body } ∷ map (lowered_body k) (bodies_from (n + k + length p.body) ps)) here
    ∙ ap (λ s. record { link = p.link; start = n; length = length p.body } ∷ map (lowered_body k) (bodies_from s ps)) next
    ∙ ap (λ bs. record { link = p.link; start = n; length = length p.body } ∷ bs) (bodies_from-lowered (n + length p.body) k ps)

pub starts_above : (n k : ℕ) (ps : List Procedure) → k ≤ n → All (λ body. k ≤ body.start) (bodies_from n ps)
starts_above n k [] le = All-nil {X = Body} (λ body. k ≤ body.start)
starts_above n k (p ∷ ps) le =
    All-cons {X = Body} (λ body. k ≤ body.start) (record { link = p.link; start = n; length = length p.body }) (bodies_from (n + length p.body) ps) le (starts_above (n + length p.body) k ps (omega arith))

-- a list without the element behind its front
remove_at : {T : Type 0} (front : List T) (x : T) (back : List T) (n : ℕ) → length front ≡ n → remove (front ++ x ∷ back) n ≡ front ++ back
remove_at front x back n is =
    let parts : front ++ x ∷ back ≡ (front ++ x ∷ []) ++ back = sym (append_assoc front (x ∷ []) back) in
    ap (λ xs. xs ++ drop (suc n) (front ++ x ∷ back)) (take_at front (x ∷ back) n is)
    ∙ ap (λ xs. front ++ xs) (ap (drop (suc n)) parts ∙ drop_at (front ++ x ∷ []) back (suc n) (omega (arith, is, length-append front (x ∷ []))))

pub record Bodies (old : Inside) (number : ℕ) (body : Body) : Type 0 where
  pub at : IsAtNumber 0 (graph_of old).procedures number body
  pub parts : old.bodies.items ≡ bodies_from 0 at.front ++ body ∷ bodies_from (body.start + body.length) at.back
  pub size : length old.items.items ≡ old.blocks_end + body.start + body.length + length (items_of_bodies at.back)
  pub whole : old.items.items ≡ (items_of_blocks (graph_of old).blocks ++ items_of_bodies at.front) ++ (at.procedure.body ++ items_of_bodies at.back)
  pub start : length (items_of_blocks (graph_of old).blocks ++ items_of_bodies at.front) ≡ old.blocks_end + body.start
  pub counted : length (bodies_from 0 at.front) ≡ number

pub bodies_at : (old : Inside) (number : ℕ) (body : Body) → IsTight old → slice_get old.bodies.items number ≡ Some body → Bodies old number body
bodies_at old number body tight found =
    let g = graph_of old in
    let at = body_at 0 g.procedures number body (ap (λ bs. slice_get bs number) (sym tight.holds.bodies) ∙ found) in
    let made : Body = record { link = at.procedure.link; start = 0 + length (items_of_bodies at.front); length = length at.procedure.body } in
    let same : made ≡ body = same_body made body (sym at.link_is) (sym at.start_is) (sym at.length_is) in
    let parts : old.bodies.items ≡ bodies_from 0 at.front ++ made ∷ bodies_from (0 + length (items_of_bodies at.front) + length at.procedure.body) at.back =
    tight.holds.bodies ∙ ap (bodies_from 0) at.whole ∙ bodies_from-append 0 at.front (at.procedure ∷ at.back) in
    let whole : old.items.items ≡ (items_of_blocks (graph_of old).blocks ++ items_of_bodies at.front) ++ (at.procedure.body ++ items_of_bodies at.back) =
    tight.holds.items
    ∙ ap (λ ps. items_of_blocks g.blocks ++ items_of_bodies ps) at.whole
    ∙ ap (λ is. items_of_blocks g.blocks ++ is) (items_of_bodies-append at.front (at.procedure ∷ at.back))
    ∙ sym (append_assoc (items_of_blocks g.blocks) (items_of_bodies at.front) (at.procedure.body ++ items_of_bodies at.back)) in
    let start : length (items_of_blocks (graph_of old).blocks ++ items_of_bodies at.front) ≡ old.blocks_end + body.start =
    omega (arith, tight.holds.blocks_end, at.start_is, length-append (items_of_blocks g.blocks) (items_of_bodies at.front)) in
    record {
      at = at;
      parts = parts ∙ ap (λ b. bodies_from 0 at.front ++ b ∷ bodies_from (b.start + b.length) at.back) same;
      size = omega (arith, start, at.length_is, ap (λ is. length is) whole, length-append (items_of_blocks g.blocks ++ items_of_bodies at.front) (at.procedure.body ++ items_of_bodies at.back), length-append at.procedure.body (items_of_bodies at.back));
      whole = whole;
      start = start;
      counted = length-bodies_from 0 at.front ∙ at.ahead;
    }
  where
    same_body : (a b : Body) → a.link ≡ b.link → a.start ≡ b.start → a.length ≡ b.length → a ≡ b
    same_body a b link start length =
        ap (λ n. record a { link = n }) link ∙ ap (λ n. record b { start = n; length = a.length }) start ∙ ap (λ n. record b { length = n }) length

-- the bodies behind the one that is gone can start earlier
pub lowers_fit : (old : Inside) (number : ℕ) (body : Body) (removed : List Body) → Bodies old number body → removed ≡ remove old.bodies.items number → All (λ b. body.length ≤ b.start) (drop number removed)
lowers_fit old number body removed bs is =
    let at = bs.at in
    let rest : drop number removed ≡ bodies_from (body.start + body.length) at.back =
    ap (drop number) (is ∙ ap (λ xs. remove xs number) bs.parts ∙ remove_at (bodies_from 0 at.front) body (bodies_from (body.start + body.length) at.back) number bs.counted)
    ∙ drop_at (bodies_from 0 at.front) (bodies_from (body.start + body.length) at.back) number bs.counted in
    subst (λ (xs : List Body). All (λ b. body.length ≤ b.start) xs) (sym rest) (starts_above (body.start + body.length) body.length at.back (omega arith))

pub without_procedure_shows : (old : Inside) (number : ℕ) (body : Body) (removed : List Body) (mid items : Vec Item Global) (bodies : Vec Body Global)
    → IsTight old → slice_get old.bodies.items number ≡ Some body
    → removed ≡ remove old.bodies.items number
    → bodies.items ≡ take number removed ++ map (lowered_body body.length) (drop number removed)
    → vec_capacity bodies ≡ vec_capacity old.bodies
    → mid.items ≡ take (old.blocks_end + body.start) old.items.items ++ drop (old.blocks_end + body.start + body.length) old.items.items
    → vec_capacity mid ≡ vec_capacity old.items
    → items.items ≡ map (recalled_item (lowered number)) mid.items
    → vec_capacity items ≡ vec_capacity mid
    → IsGraph (without_procedure (graph_of old) number)
    → Shows (record old { items = items; bodies = bodies }) (without_procedure (graph_of old) number)
without_procedure_shows old number body removed mid items bodies tight found removed_is bodies_are body_capacity mid_is mid_capacity is capacity rules =
    let g = graph_of old in
    let bs = bodies_at old number body tight found in
    let at = bs.at in
    let limits = limited old tight in
    let middle : Inside = record old { items = mid; bodies = bodies } in
    let g0 : Graph = record g { procedures = remove g.procedures number } in
    let left : remove g.procedures number ≡ at.front ++ at.back =
    ap (λ ps. remove ps number) at.whole ∙ remove_at at.front at.procedure at.back number at.ahead in
    let gone : removed ≡ bodies_from 0 at.front ++ bodies_from (body.start + body.length) at.back =
    removed_is ∙ ap (λ xs. remove xs number) bs.parts ∙ remove_at (bodies_from 0 at.front) body (bodies_from (body.start + body.length) at.back) number bs.counted in
    let all : mid.items ≡ (items_of_blocks g.blocks ++ items_of_bodies at.front) ++ items_of_bodies at.back =
    mid_is
    ∙ ap (λ ys. ys ++ drop (old.blocks_end + body.start + body.length) old.items.items)
    (ap (take (old.blocks_end + body.start)) bs.whole ∙ take_at (items_of_blocks g.blocks ++ items_of_bodies at.front) (at.procedure.body ++ items_of_bodies at.back) (old.blocks_end + body.start) bs.start)
    ∙ ap (λ ys. (items_of_blocks g.blocks ++ items_of_bodies at.front) ++ ys)
    (ap (drop (old.blocks_end + body.start + body.length)) (bs.whole ∙ sym (append_assoc (items_of_blocks g.blocks ++ items_of_bodies at.front) at.procedure.body (items_of_bodies at.back)))
    ∙ drop_at ((items_of_blocks g.blocks ++ items_of_bodies at.front) ++ at.procedure.body) (items_of_bodies at.back) (old.blocks_end + body.start + body.length)
    (omega (arith, bs.start, at.length_is, length-append (items_of_blocks g.blocks ++ items_of_bodies at.front) at.procedure.body))) in
    let start : length (items_of_bodies at.front) ≡ body.start = omega (arith, at.start_is) in
    mapped_holds (recalled_item (lowered number)) (λ term. term) middle (record old { items = items; bodies = bodies }) g0 (without_procedure g number)
    (record {
      slots = tight.holds.slots;
      items = all ∙ append_assoc (items_of_blocks g.blocks) (items_of_bodies at.front) (items_of_bodies at.back)
          ∙ ap (λ ys. items_of_blocks g.blocks ++ ys) (sym (items_of_bodies-append at.front at.back) ∙ ap items_of_bodies (sym left));
      blocks_end = tight.holds.blocks_end;
      gaps = tight.holds.gaps;
      order = tight.holds.order;
      entry = tight.holds.entry;
      code_words = tight.holds.code_words;
      bodies = bodies_are
          ∙ ap (λ xs. take number xs ++ map (lowered_body body.length) (drop number xs)) gone
          ∙ ap (λ xs. xs ++ map (lowered_body body.length) (drop number (bodies_from 0 at.front ++ bodies_from (body.start + body.length) at.back))) (take_at (bodies_from 0 at.front) (bodies_from (body.start + body.length) at.back) number bs.counted)
          ∙ ap (λ xs. bodies_from 0 at.front ++ map (lowered_body body.length) xs) (drop_at (bodies_from 0 at.front) (bodies_from (body.start + body.length) at.back) number bs.counted)
          ∙ ap (λ xs. bodies_from 0 at.front ++ xs) (bodies_from-lowered body.start body.length at.back)
          ∙ ap (λ n. bodies_from 0 at.front ++ bodies_from n at.back) at.start_is
          ∙ sym (bodies_from-append 0 at.front at.back)
          ∙ ap (bodies_from 0) (sym left);
    })
    (record {
      items = omega (arith, tight.room.items, bs.size, bs.start, ap (λ ys. length ys) all, length-append (items_of_blocks g.blocks ++ items_of_bodies at.front) (items_of_bodies at.back));
      item_room = omega (arith, mid_capacity, tight.room.item_room);
      bodies = omega (arith, tight.room.bodies, ap (λ xs. length xs) bodies_are, length-append (take number removed) (map (lowered_body body.length) (drop number removed)), length-map (drop number removed) (lowered_body body.length), ap (λ xs. length xs) (take-append-drop number removed), length-append (take number removed) (drop number removed), ap (λ xs. length xs) gone, ap (λ xs. length xs) bs.parts, length-append (bodies_from 0 at.front) (bodies_from (body.start + body.length) at.back), length-append (bodies_from 0 at.front) (body ∷ bodies_from (body.start + body.length) at.back));
      body_room = omega (arith, body_capacity, tight.room.body_room);
    })
    (record { blocks = limits.blocks; item_room = limits.item_room; body_room = limits.body_room })
    (sym (map-id old.slots.entries)) refl is capacity refl refl refl refl refl refl refl refl refl refl rules

-- what is spare afterwards
pub record FreesProcedure (old : Inside) (number : ℕ) (items : List Item) (bodies : List Body) : Type 0 where
  pub items_spare : old.item_room + old.gaps - length items ≡ old.item_room + old.gaps - length old.items.items + length (body_of (graph_of old) number)
  pub bodies_spare : old.body_room - length bodies ≡ old.body_room - length old.bodies.items + 1

pub frees_procedure : (old : Inside) (number : ℕ) (body : Body) (removed : List Body) (mid items : List Item) (bodies : List Body)
    → IsTight old → slice_get old.bodies.items number ≡ Some body → number < length old.bodies.items
    → removed ≡ remove old.bodies.items number
    → bodies ≡ take number removed ++ map (lowered_body body.length) (drop number removed)
    → mid ≡ take (old.blocks_end + body.start) old.items.items ++ drop (old.blocks_end + body.start + body.length) old.items.items
    → items ≡ map (recalled_item (lowered number)) mid
    → FreesProcedure old number items bodies
frees_procedure old number body removed mid items bodies tight found there removed_is bodies_are mid_is is =
    let shown = reads_body old number body tight.sound found in
    let fits = shown.within in
    record {
      items_spare = omega (arith, tight.room.items, shown.within, shown.length_is, ap (λ o. length (procedure_body o)) shown.is, ap (λ xs. length xs) is, length-map mid (recalled_item (lowered number)), ap (λ xs. length xs) mid_is, length-append (take (old.blocks_end + body.start) old.items.items) (drop (old.blocks_end + body.start + body.length) old.items.items), length-take-le (old.blocks_end + body.start) old.items.items (omega (arith, fits)), length-drop (old.blocks_end + body.start + body.length) old.items.items);
      bodies_spare = omega (arith, tight.room.bodies, there, ap (λ xs. length xs) bodies_are, length-append (take number removed) (map (lowered_body body.length) (drop number removed)), length-map (drop number removed) (lowered_body body.length), ap (λ xs. length xs) (take-append-drop number removed), length-append (take number removed) (drop number removed), ap (λ xs. length xs) removed_is, length-remove old.bodies.items number there);
    }
