use Rattle.std.proofs.Common.{◌≡◌, ◌∙◌, ◌++◌, ◌-◌, List, Some, ap, is_some, length, drop, refl, arith, length-append}
use Rattle.std.proofs.lemmas.List.{length-drop, take_all}
use Rattle.sq_graph.specs.declared.calls.ItemFate.{ItemFate}
use Rattle.sq_graph.specs.declared.item.Item.{Item}
use Rattle.sq_graph.specs.Blocks.{items_of, items_of_blocks, items_of_bodies}
use Rattle.sq_graph.specs.Calls.{met_items}
use Rattle.sq_graph.proofs.CursorLaws.{value_of-with_value}
use Rattle.sq_graph.proofs.SlotWalks.{step_shortens}
use Rattle.sq_graph.proofs.CallWrites.{met_fewer, calling_first, slot_is, block_is, fates_left, calling_few, calling_step}
use Rattle.sq_graph.proofs.calls.call_in_blocks.Goals as goal

pub loop-place-init : goal.loop-place-init
loop-place-init c =
    record {
      walk = rw c.new-items.ensures.items (calling_first c.args.graph.now.graph c.args.fates.now c.args.slots.now.entries c.first-place.result c.requires.distinct c.requires.slots c.first-place.ensures);
      spare = refl;
    }

pub slot-found-requires : goal.slot-found-requires
slot-found-requires c =
    let walk = rw c.in-Some.is at c.loop-place.invariant.walk in
    ap is_some (slot_is c.args.graph.now.graph c.args.fates.now c.loop-place.slots.entries c.in-Some.name c.loop-place.items.items c.loop-place.ahead c.learn.ensures.rules c.requires.many walk)

pub overflow_cast-start : goal.overflow_cast-start
overflow_cast-start c =
    let walk = rw c.in-Some.is at c.loop-place.invariant.walk in
    omega (
      arith,
      c.requires.many,
      c.learn.ensures.small.items,
      c.len-start.ensures,
      c.loop-place.items.ok.0,
      fates_left c.args.graph.now.graph c.args.fates.now c.loop-place.slots.entries c.in-Some.name c.loop-place.items.items c.loop-place.ahead c.learn.ensures.rules c.requires.many walk,
      calling_few c.args.graph.now.graph c.args.fates.now c.loop-place.slots.entries (Some c.in-Some.name) c.loop-place.items.items c.loop-place.ahead walk,
      length-append (items_of_blocks c.args.graph.now.graph.blocks) (items_of_bodies c.args.graph.now.graph.procedures),
    )

pub items-requires : goal.items-requires
items-requires c =
    let walk = rw c.in-Some.is at c.loop-place.invariant.walk in
    ap is_some (block_is c.args.graph.now.graph c.args.fates.now c.loop-place.slots.entries c.in-Some.name c.loop-place.items.items c.loop-place.ahead c.learn.ensures.rules c.requires.many walk)

pub call_items-requires : goal.call_items-requires
call_items-requires c =
    let walk = rw c.in-Some.is at c.loop-place.invariant.walk in
    let left = fates_left c.args.graph.now.graph c.args.fates.now c.loop-place.slots.entries c.in-Some.name c.loop-place.items.items c.loop-place.ahead c.learn.ensures.rules c.requires.many walk in
    let all = take_all (length c.args.fates.now - c.loop-place.ahead) (drop c.loop-place.ahead c.args.fates.now) (omega (arith, length-drop c.loop-place.ahead c.args.fates.now)) in
    omega (arith, left, ap (λ (is : List Item). length is) c.items.ensures, ap (λ (fs : List ItemFate). length fs) all, length-drop c.loop-place.ahead c.args.fates.now)

pub overflow_cast-length : goal.overflow_cast-length
overflow_cast-length c =
    let walk = rw c.in-Some.is at c.loop-place.invariant.walk in
    let all = take_all (length c.args.fates.now - c.loop-place.ahead) (drop c.loop-place.ahead c.args.fates.now) (omega (arith, length-drop c.loop-place.ahead c.args.fates.now)) in
    let made : c.call_items.new.items.items ≡ c.loop-place.items.items ++ met_items (drop c.loop-place.ahead c.args.fates.now) (items_of c.args.graph.now.graph c.in-Some.name) =
    c.in_ok-call_items.ensures ∙ ap (λ fs. c.loop-place.items.items ++ met_items fs c.items.result.now) all ∙ ap (λ is. c.loop-place.items.items ++ met_items (drop c.loop-place.ahead c.args.fates.now) is) c.items.ensures in
    omega (
      arith,
      c.requires.many,
      c.learn.ensures.small.items,
      c.len.ensures,
      c.call_items.new.items.ok.0,
      fates_left c.args.graph.now.graph c.args.fates.now c.loop-place.slots.entries c.in-Some.name c.loop-place.items.items c.loop-place.ahead c.learn.ensures.rules c.requires.many walk,
      calling_few c.args.graph.now.graph c.args.fates.now c.loop-place.slots.entries (Some c.in-Some.name) c.loop-place.items.items c.loop-place.ahead walk,
      ap (λ (is : List Item). length is) made,
      length-append c.loop-place.items.items (met_items (drop c.loop-place.ahead c.args.fates.now) (items_of c.args.graph.now.graph c.in-Some.name)),
      met_fewer (drop c.loop-place.ahead c.args.fates.now) (items_of c.args.graph.now.graph c.in-Some.name),
      length-append (items_of_blocks c.args.graph.now.graph.blocks) (items_of_bodies c.args.graph.now.graph.procedures),
    )

pub next-place-requires : goal.next-place-requires
next-place-requires c =
    rw c.set.ensures.entries (ap is_some (value_of-with_value c.loop-place.slots.entries c.in-Some.name c.slot-found.result _ c.slot-found.ensures))

pub loop-place-smaller : goal.loop-place-smaller
loop-place-smaller c =
    let walk = rw c.in-Some.is at c.loop-place.invariant.walk in
    rw (c.in-Some.is, c.next-place.ensures, c.set.ensures.entries) (step_shortens c.loop-place.slots.entries c.in-Some.name c.slot-found.result _ walk.walk.distinct c.slot-found.ensures)

pub loop-place-preserved : goal.loop-place-preserved
loop-place-preserved c =
    let walk = rw c.in-Some.is at c.loop-place.invariant.walk in
    let all = take_all (length c.args.fates.now - c.loop-place.ahead) (drop c.loop-place.ahead c.args.fates.now) (omega (arith, length-drop c.loop-place.ahead c.args.fates.now)) in
    let made : c.call_items.new.items.items ≡ c.loop-place.items.items ++ met_items (drop c.loop-place.ahead c.args.fates.now) (items_of c.args.graph.now.graph c.in-Some.name) =
    c.in_ok-call_items.ensures ∙ ap (λ fs. c.loop-place.items.items ++ met_items fs c.items.result.now) all ∙ ap (λ is. c.loop-place.items.items ++ met_items (drop c.loop-place.ahead c.args.fates.now) is) c.items.ensures in
    record {
      walk =
          rw (c.next-place.ensures, c.set.ensures.entries)
          (calling_step c.args.graph.now.graph c.args.fates.now c.loop-place.slots.entries c.in-Some.name c.loop-place.items.items c.loop-place.ahead c.learn.ensures.rules c.requires.many walk c.slot-found.result _ c.len-start.result (c.len.result - c.len-start.result) (drop c.loop-place.ahead c.args.fates.now) c.call_items.new.items.items c.slot-found.ensures (c.len-start.ensures ∙ c.loop-place.items.ok.0) refl made (omega (arith, c.len.ensures, c.len-start.ensures, c.call_items.new.items.ok.0, c.loop-place.items.ok.0, ap (λ (is : List Item). length is) made, length-append c.loop-place.items.items (met_items (drop c.loop-place.ahead c.args.fates.now) (items_of c.args.graph.now.graph c.in-Some.name)))) refl);
      spare = c.set.ensures.spare ∙ c.loop-place.invariant.spare;
    }
