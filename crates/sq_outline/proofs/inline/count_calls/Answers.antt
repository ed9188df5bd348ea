use Rattle.std.proofs.Common.{◌≡◌, ◌+◌, ℕ, List, Option, length, ap, ◌∙◌, arith}
use Rattle.std.specs.List.{count_by}
use Rattle.sq_graph.specs.declared.item.Item.{Item}
use Rattle.sq_graph.specs.Graph.{Block}
use Rattle.sq_graph.specs.Blocks.{items_of_blocks}
use Rattle.sq_layout.proofs.Walks.{blocks_from, starts, here, items_few}
use Rattle.sq_outline.specs.Inlined.{is_call}
use Rattle.sq_outline.specs.InlineSteps.{counted}
use Rattle.sq_outline.proofs.Spreading.{calls_in, calls_in_blocks-cons}
use Rattle.sq_outline.proofs.InlineSearch.{calls_few}
use Rattle.sq_outline.proofs.inline.count_calls.Goals as goal

pub loop-place-init : goal.loop-place-init
loop-place-init c =
    let first = rw c.first.ensures at (starts c.args.graph.now.graph.blocks) in
    record {
      place = first.0;
      counts = λ p.
          let none : counted c.new-calls.result p ≡ 0 = ap (λ (t : List (Option ℕ)). counted t p) c.new-calls.ensures in
          omega (arith, none, ap (λ (bs : List Block). calls_in p (items_of_blocks bs)) first.1);
    }

pub add_calls-requires : goal.add_calls-requires
add_calls-requires c = λ p.
    let g = c.args.graph.now.graph in
    let few = items_few g c.in-Some.block c.learn.ensures.few in
    let is = ap (λ (items : List Item). length items) c.items.ensures in
    omega (arith, c.loop-place.invariant.counts p, calls_few g p, few, is, c.learn.ensures.few)

pub loop-place-smaller : goal.loop-place-smaller
loop-place-smaller c =
    let h = here c.args.graph.now.graph c.loop-place.place c.in-Some.block c.learn.ensures.rules c.in-Some.is c.loop-place.invariant.place in
    omega (arith, ap (λ (bs : List Block). length bs) h.rest, ap (λ (bs : List Block). length bs) (ap (blocks_from c.args.graph.now.graph.blocks) c.next-place.ensures ∙ h.step.next))

pub loop-place-preserved : goal.loop-place-preserved
loop-place-preserved c =
    let h = here c.args.graph.now.graph c.loop-place.place c.in-Some.block c.learn.ensures.rules c.in-Some.is c.loop-place.invariant.place in
    let next = ap (blocks_from c.args.graph.now.graph.blocks) c.next-place.ensures ∙ h.step.next in
    record {
      place = rw c.next-place.ensures h.step.there;
      counts = λ p.
          let added : counted c.add_calls.new.calls p ≡ counted c.loop-place.calls p + count_by (is_call p) c.items.result.now = c.in_ok-add_calls.ensures p in
          omega (
            arith,
            c.loop-place.invariant.counts p,
            added,
            ap (λ (bs : List Block). calls_in p (items_of_blocks bs)) h.rest,
            ap (λ (bs : List Block). calls_in p (items_of_blocks bs)) next,
            ap (λ (items : List Item). calls_in p items) (c.items.ensures ∙ h.items),
            calls_in_blocks-cons p h.step.block h.step.others,
          );
    }
