-- A call that may stand for items may stand for them once others were taken for calls.
use Rattle.std.proofs.Common.{◌≡◌, ◌≢◌, ℕ, ◌+◌, ◌<◌, ◌≤◌, true, List, take, drop, length, slice_get, Some, inl, inr, refl, sym, ap, ◌∙◌, subst, arith}
use Rattle.std.proofs.lemmas.Bool.{cases_eq, cases_lt}
use Rattle.std.proofs.lemmas.List.{length-drop}
use Rattle.sq_graph.specs.declared.item.Item.{Item}
use Rattle.sq_graph.specs.declared.calls.ItemFate.{ItemFate}
use Rattle.sq_graph.specs.declared.calls.ItemFate.TheVariants.{Goes}
use Rattle.sq_graph.specs.Graph.{Graph}
use Rattle.sq_graph.specs.Blocks.{items_of, items_of_blocks, body_of}
use Rattle.sq_graph.specs.Calls.{with_calls, now_at, are_free, fates_of}
use Rattle.sq_graph.specs.Lines.{place_lines}
use Rattle.sq_graph.specs.Walks.{IsLive}
use Rattle.sq_graph.proofs.Spans.{count, items_then, fates_of_long, now_fits, was_behind, stand_still, first_kept, first_counts, get_dropped, stays_behind, has_then}
use Rattle.law_patch.specs.Calls.{IsCallable}
use Rattle.law_patch.proofs.Calls.{range_is}
use Rattle.sq_outline.specs.WindowsInside.{IsCalledInside}
use Rattle.sq_outline.specs.WindowsTaken.{AreTaken, place_then, KeepsLive}

module _ (g : Graph) (fates : List ItemFate) (taken : AreTaken g fates) (block at n : ℕ) (within : at + n ≤ length (items_of g block)) (some : 1 ≤ n) (free : are_free n (fates_of g fates block) at ≡ true) where
  abbrev fs : List ItemFate
  fs = fates_of g fates block

  abbrev xs : List Item
  xs = items_of g block

  many : length (items_of_blocks g.blocks) ≤ length fates
  many = omega (arith, taken.many)

  long : length (fates_of g fates block) ≡ length (items_of g block)
  long = fates_of_long g fates many block

  pub fits : at + n ≤ length (fates_of g fates block)
  fits = omega (arith, within, long)

  -- where the items end then
  pub end_then : place_then g fates block (at + n) ≡ place_then g fates block at + n
  end_then =
      let e : at + n ≡ at + n + 0 = omega arith in
      let none : count (take 0 (drop (at + n) (fates_of g fates block))) ≡ 0 = refl in
      ap (now_at (fates_of g fates block)) e ∙ omega (arith, was_behind (fates_of g fates block) at n 0 fits some free 0, none)

  pub length_then : (q : ℕ) → place_then g fates block q ≤ length (items_of (with_calls fates g) block)
  length_then q = omega (arith, now_fits (fates_of g fates block) (items_of g block) q long, ap (λ (is : List Item). length is) (items_then g fates many block))

  pub within_then : place_then g fates block at + n ≤ length (items_of (with_calls fates g) block)
  within_then = omega (arith, end_then, length_then (at + n))

  pub same_then : take n (drop (place_then g fates block at) (items_of (with_calls fates g) block)) ≡ take n (drop at (items_of g block))
  same_then =
      ap (λ is. take n (drop (place_then g fates block at) is)) (items_then g fates many block)
      ∙ stand_still (fates_of g fates block) at n (items_of g block) long fits free

  -- they are no whole body then that were none
  pub part_then : length (items_of g block) ≢ n → length (items_of (with_calls fates g) block) ≢ n
  part_then part whole =
      elim (cases_lt 0 at) [
        | inl ahead ↦
            let one = first_counts (fates_of g fates block) at (first_kept (fates_of g fates block) (taken.spans block)) (omega (arith, fits, some)) (omega (arith, ahead)) in
            omega (arith, one, within_then, whole)
        | inr first ↦
            let left : at + n < length (fates_of g fates block) = strict first in
            let kept : slice_get (drop (at + n) (fates_of g fates block)) 0 ≢ Some Goes = λ goes.
            let e : at + n + 0 ≡ at + n = omega arith in
            stays_behind _ (fates_of g fates block) at n (taken.spans block) some fits free (ap (slice_get (fates_of g fates block)) (sym e) ∙ sym (get_dropped (fates_of g fates block) (at + n) 0) ∙ goes) in
            let one = first_counts (drop (at + n) (fates_of g fates block)) 1 kept (omega (arith, left, length-drop (at + n) (fates_of g fates block))) (omega arith) in
            omega (arith, one, whole, was_behind (fates_of g fates block) at n 0 fits some free 1, length_then (at + n + 1))
      ]
    where
      strict : at ≤ 0 → at + n < length (fates_of g fates block)
      strict first =
          elim (cases_eq (length (items_of g block)) n) [
            | inl same ↦ absurd (part same)
            | inr other ↦ elim (cases_lt (at + n) (length (fates_of g fates block))) [ inl less ↦ less | inr no_less ↦ absurd (other (omega (arith, first, no_less, within, long))) ]
          ]

-- ROW V

-- items that may become a call may become it then
pub callable_then : (g : Graph) (fates : List ItemFate) (block at procedure : ℕ) → AreTaken g fates → KeepsLive g fates → 1 ≤ length (body_of g procedure) → are_free (length (body_of g procedure)) (fates_of g fates block) at ≡ true → IsCallable g block at procedure → IsCallable (with_calls fates g) block (place_then g fates block at) procedure
callable_then g fates block at procedure taken keeps some free call = record {
  block_there = has_then g fates block call.block_there;
  procedure_there = call.procedure_there;
  within = within_then g fates taken block at (length (body_of g procedure)) call.within some free;
  items =
      range_is (items_of (with_calls fates g) block) (place_then g fates block at) (length (body_of g procedure))
      ∙ same_then g fates taken block at (length (body_of g procedure)) call.within some free
      ∙ sym (range_is (items_of g block) at (length (body_of g procedure))) ∙ call.items;
  dead = λ link is lives.
      let kept = stays_behind _ (fates_of g fates block) at (length (body_of g procedure)) (taken.spans block) some (fits g fates taken block at (length (body_of g procedure)) call.within some free) free in
      call.dead link is
      ((keeps block (at + length (body_of g procedure)) link call.block_there call.within kept).1
      (subst (λ k. IsLive (with_calls fates g) link (place_lines (with_calls fates g) block k)) (sym (end_then g fates taken block at (length (body_of g procedure)) call.within some free)) lives));
}

pub inside_then : (g : Graph) (fates : List ItemFate) (block at procedure saving : ℕ) → AreTaken g fates → KeepsLive g fates → are_free (length (body_of g procedure)) (fates_of g fates block) at ≡ true → IsCalledInside g block at procedure saving → IsCalledInside (with_calls fates g) block (place_then g fates block at) procedure saving
inside_then g fates block at procedure saving taken keeps free can =
    let n = length (body_of g procedure) in
    let call = can.callable in
    let some : 1 ≤ length (body_of g procedure) = let s = can.saves in omega (arith, s) in
    record {
      callable = callable_then g fates block at procedure taken keeps some free call;
      plain = can.plain;
      part = part_then g fates taken block at (length (body_of g procedure)) call.within some free can.part;
      saves = can.saves;
      some = can.some;
    }
