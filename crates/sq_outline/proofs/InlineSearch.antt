-- What the search for a procedure that may go adds up.
use Rattle.std.proofs.Common.{◌≡◌, ◌≤◌, ◌<◌, ℕ, ◌+◌, ◌*◌, ◌^◌, List, [], ◌∷◌, length, sum_by, Option, Some, None, sym, ap, ◌∙◌, subst, refl, arith, length-append}
use Rattle.std.specs.Option.{unwrap_or}
use Rattle.std.proofs.Math.Nat.{mul-le-mul_left}
use Rattle.std.proofs.lemmas.List.Sums.{sum_by-cons, count_by-le-length}
use Rattle.sq_graph.specs.Graph.{Block, Procedure, Graph}
use Rattle.sq_graph.specs.Blocks.{HasProcedure, items_of_blocks, items_of_bodies, all_items, body_of}
use Rattle.sq_graph.specs.Room.{GraphAndRoom, IsSmall, count_of, sum_of, total_of}
use Rattle.sq_graph.specs.Words.{block_words, procedure_words, words_of}
use Rattle.sq_pass.specs.declared.cut.Cut.{Cut}
use Rattle.sq_pass.specs.Cuts.{IsCompleted}
use Rattle.sq_outline.specs.Inlined.{is_call, call_count, WouldSave, IsInlinable, IsInlined}
use Rattle.sq_outline.specs.InlineSteps.{HasRoom, inline_room, number_or_0}
use Rattle.sq_outline.proofs.RecallNumbers.{body_words}

blocks_few : (bs : List Block) → length (items_of_blocks bs) ≤ sum_by block_words bs
blocks_few [] = omega arith
blocks_few (b ∷ bs) = omega (arith, length-append b.items (items_of_blocks bs), sum_by-cons block_words b bs, blocks_few bs)

bodies_few : (ps : List Procedure) → length (items_of_bodies ps) ≤ sum_by procedure_words ps
bodies_few [] = omega arith
bodies_few (p ∷ ps) = omega (arith, length-append p.body (items_of_bodies ps), sum_by-cons procedure_words p ps, bodies_few ps)

-- there are fewer calls than words
pub calls_few : (g : Graph) (p : ℕ) → call_count g p ≤ words_of g
calls_few g p = omega (arith, count_by-le-length (is_call p) (items_of_blocks g.blocks), blocks_few g.blocks)

pub products_fit : (a b : ℕ) → a < 2 ^ 31 → b < 2 ^ 31 → a * b < 2 ^ 64
products_fit a b small small' =
    let most : a * b ≤ a * 2147483648 = mul-le-mul_left a (omega (arith, small')) in
    omega (arith, most, small)

pub or_0 : (o : Option ℕ) → unwrap_or o 0 ≡ number_or_0 o
or_0 None = refl
or_0 (Some n) = refl

-- there are no more items than words
pub items_few : (g : Graph) → length (all_items g) ≤ words_of g
items_few g = omega (arith, blocks_few g.blocks, bodies_few g.procedures, length-append (items_of_blocks g.blocks) (items_of_bodies g.procedures))

-- a copy has room
pub still_small : (v : GraphAndRoom) (p : ℕ) → HasProcedure v.graph p → IsSmall (total_of v) → words_of v.graph < 2 ^ 28 → IsSmall (sum_of (count_of v.graph) (inline_room v.graph p))
still_small v p there small few =
    let blocks = small.blocks in
    let procedures = small.procedures in
    record {
      blocks = omega (arith, blocks);
      items = omega (arith, items_few v.graph, few, body_words v.graph p there);
      procedures = omega (arith, procedures);
    }

pub has_room : (v : GraphAndRoom) (p : ℕ) → call_count v.graph p * length (body_of v.graph p) ≤ call_count v.graph p + length (body_of v.graph p) → length (body_of v.graph p) + 1 ≤ v.spare.items → HasRoom p v
has_room v p few room = omega (arith, few, room)

-- a candidate of O4 has the room that is told for it
pub room_of : (v : GraphAndRoom) (p saving : ℕ) → IsInlinable v.graph p saving → length (body_of v.graph p) + 1 ≤ v.spare.items → HasRoom p v
room_of v p saving inlinable room = has_room v p (omega (arith, inlinable.saved, inlinable.some)) room

-- that room isn't more than the words
pub room_within : (g : Graph) (p saving : ℕ) → IsInlinable g p saving → length (body_of g p) + 1 ≤ words_of g
room_within g p saving inlinable = body_words g p inlinable.there

pub would_of : (g : Graph) (p saving : ℕ) → IsInlinable g p saving → WouldSave g p saving
would_of g p saving inlinable = record { there = inlinable.there; called = inlinable.called; saved = inlinable.saved; some = inlinable.some }

-- the procedure of a cut that is completed
pub inlinable_of : (g : Graph) (cut given : Cut) → IsCompleted cut given → (inlined : IsInlined g given) → IsInlinable g cut.procedure inlined.saving
inlinable_of g cut given completed inlined =
    subst (λ p. IsInlinable g p inlined.saving) (sym (ap (λ (k : Cut). k.procedure) inlined.is) ∙ completed.procedure) inlined.inlinable
