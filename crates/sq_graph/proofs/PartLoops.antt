-- The loops that give the blocks and procedures of parts their places.
use Rattle.std.proofs.Common.{◌≡◌, ℕ, ◌+◌, ◌≤◌, ◌<◌, List, [], ◌∷◌, ◌++◌, length, take, get_or, sym, ap, ◌∙◌, arith}
use Rattle.std.proofs.lemmas.List.{take_more}
use Rattle.std.proofs.lemmas.List.Sums.{sum_by-cons, sum_by_push, sum_by_more_le}
use Rattle.sq_graph.specs.declared.slot.Slot.{Slot}
use Rattle.sq_graph.specs.declared.slot.Body.{Body}
use Rattle.sq_graph.specs.declared.parts.BlockPart.{BlockPart}
use Rattle.sq_graph.specs.declared.parts.ProcedurePart.{ProcedurePart}
use Rattle.sq_graph.specs.Parts.{length_of_blocks, length_of_bodies}
use Rattle.sq_graph.specs.PartSlots.{part_slots, part_bodies}

zero_left : (n : ℕ) → n ≡ 0 + n
zero_left n = omega arith

part_slots-push : (n : ℕ) (ps : List BlockPart) (p : BlockPart) → part_slots n (ps ++ p ∷ []) ≡ part_slots n ps ++ record { start = n + length_of_blocks ps; length = p.length; term = p.term } ∷ []
part_slots-push n [] p = let e : n ≡ n + 0 = omega arith in ap (λ s. record { start = s; length = p.length; term = p.term } ∷ []) e
part_slots-push n (q ∷ ps) p =
    let e : n + q.length + length_of_blocks ps ≡ n + length_of_blocks (q ∷ ps) = omega (arith, sum_by-cons (λ (part : BlockPart). part.length) q ps) in
    ap (λ ss. record { start = n; length = q.length; term = q.term } ∷ ss)
    (part_slots-push (n + q.length) ps p ∙ ap (λ s. part_slots (n + q.length) ps ++ record { start = s; length = p.length; term = p.term } ∷ []) e)

part_bodies-push : (n : ℕ) (ps : List ProcedurePart) (p : ProcedurePart) → part_bodies n (ps ++ p ∷ []) ≡ part_bodies n ps ++ record { link = p.link; start = n + length_of_bodies ps; length = p.length } ∷ []
part_bodies-push n [] p = let e : n ≡ n + 0 = omega arith in ap (λ s. record { link = p.link; start = s; length = p.length } ∷ []) e
part_bodies-push n (q ∷ ps) p =
    let e : n + q.length + length_of_bodies ps ≡ n + length_of_bodies (q ∷ ps) = omega (arith, sum_by-cons (λ (part : ProcedurePart). part.length) q ps) in
    ap (λ ss. record { link = q.link; start = n; length = q.length } ∷ ss)
    (part_bodies-push (n + q.length) ps p ∙ ap (λ s. part_bodies (n + q.length) ps ++ record { link = p.link; start = s; length = p.length } ∷ []) e)

-- the first bodies of procedures, and how long they are
pub record FirstBodies (i start : ℕ) (ps : List ProcedurePart) (bodies : List Body) : Type 0 where
  pub are : bodies ≡ part_bodies 0 (take i ps)
  pub start_is : start ≡ length_of_bodies (take i ps)

pub bodies_step : (i start : ℕ) (p : ProcedurePart) (ps : List ProcedurePart) (bodies bodies' : List Body) → FirstBodies i start ps bodies → i < length ps → p ≡ get_or ps i p → bodies' ≡ bodies ++ record { link = p.link; start = start; length = p.length } ∷ [] → FirstBodies (i + 1) (start + p.length) ps bodies'
bodies_step i start p ps bodies bodies' first inside read is =
    let more : take (i + 1) ps ≡ take i ps ++ p ∷ [] = take_more ps i p inside ∙ ap (λ q. take i ps ++ q ∷ []) (sym read) in
    record {
      are = is ∙ ap (λ bs. bs ++ record { link = p.link; start = start; length = p.length } ∷ []) first.are
          ∙ ap (λ s. part_bodies 0 (take i ps) ++ record { link = p.link; start = s; length = p.length } ∷ []) (first.start_is ∙ zero_left (length_of_bodies (take i ps)))
          ∙ sym (part_bodies-push 0 (take i ps) p) ∙ ap (part_bodies 0) (sym more);
      start_is = omega (arith, first.start_is, ap length_of_bodies more, sum_by_push (λ (part : ProcedurePart). part.length) (take i ps) p);
    }

pub bodies_fit : (i start : ℕ) (p : ProcedurePart) (ps : List ProcedurePart) (bodies : List Body) → FirstBodies i start ps bodies → i < length ps → p ≡ get_or ps i p → start + p.length ≤ length_of_bodies ps
bodies_fit i start p ps bodies first inside read =
    omega (arith, first.start_is, sum_by_more_le (λ (part : ProcedurePart). part.length) ps i p inside, ap (λ q. q.length) read)

-- the first slots of blocks, and how long they are
pub record FirstSlots (i start : ℕ) (ps : List BlockPart) (slots : List Slot) : Type 0 where
  pub are : slots ≡ part_slots 0 (take i ps)
  pub start_is : start ≡ length_of_blocks (take i ps)

pub slots_step : (i start : ℕ) (p : BlockPart) (ps : List BlockPart) (slots slots' : List Slot) → FirstSlots i start ps slots → i < length ps → p ≡ get_or ps i p → slots' ≡ slots ++ record { start = start; length = p.length; term = p.term } ∷ [] → FirstSlots (i + 1) (start + p.length) ps slots'
slots_step i start p ps slots slots' first inside read is =
    let more : take (i + 1) ps ≡ take i ps ++ p ∷ [] = take_more ps i p inside ∙ ap (λ q. take i ps ++ q ∷ []) (sym read) in
    record {
      are = is ∙ ap (λ ss. ss ++ record { start = start; length = p.length; term = p.term } ∷ []) first.are
          ∙ ap (λ s. part_slots 0 (take i ps) ++ record { start = s; length = p.length; term = p.term } ∷ []) (first.start_is ∙ zero_left (length_of_blocks (take i ps)))
          ∙ sym (part_slots-push 0 (take i ps) p) ∙ ap (part_slots 0) (sym more);
      start_is = omega (arith, first.start_is, ap length_of_blocks more, sum_by_push (λ (part : BlockPart). part.length) (take i ps) p);
    }

pub slots_fit : (i start : ℕ) (p : BlockPart) (ps : List BlockPart) (slots : List Slot) → FirstSlots i start ps slots → i < length ps → p ≡ get_or ps i p → start + p.length ≤ length_of_blocks ps
slots_fit i start p ps slots first inside read =
    omega (arith, first.start_is, sum_by_more_le (λ (part : BlockPart). part.length) ps i p inside, ap (λ q. q.length) read)
