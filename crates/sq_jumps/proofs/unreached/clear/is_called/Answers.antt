use Rattle.std.proofs.Common.{◌≡◌, true, false, ◌||◌, ◌∙◌, sym, ap, length, arith}
use Rattle.std.specs.List.{flat_map}
use Rattle.sq_graph.specs.Uses.{item_calls}
use Rattle.sq_layout.proofs.Walks.{blocks_from, starts, here}
use Rattle.sq_lookup.specs.Names.{is_listed}
use Rattle.sq_jumps.specs.Unreached.{is_called_in}
use Rattle.sq_jumps.proofs.unreached.clear.is_called.Goals as goal

pub loop-place-init : goal.loop-place-init
loop-place-init c =
    let first = rw c.first.ensures at (starts c.args.graph.now.graph.blocks) in
    record {
      place = first.0;
      same = ap (λ bs. is_called_in (λ n. true) bs c.args.number) (sym first.1);
    }

pub returns-then-has_call : goal.returns-then-has_call
returns-then-has_call c =
    let h = here c.args.graph.now.graph c.loop-place.place c.in-Some.name c.requires c.in-Some.is c.loop-place.invariant.place in
    let called : is_listed (flat_map item_calls h.step.block.items) c.args.number ≡ true =
    sym (ap (λ is. is_listed (flat_map item_calls is) c.args.number) (c.items.ensures ∙ h.items)) ∙ sym c.has_call.ensures ∙ c.if-has_call.true in
    sym (
    c.loop-place.invariant.same
    ∙ ap (λ bs. is_called_in (λ n. true) bs c.args.number) h.rest
    ∙ ap (λ t. t || is_called_in (λ n. true) h.step.others c.args.number) called
    )

pub loop-place-smaller : goal.loop-place-smaller
loop-place-smaller c =
    let h = here c.args.graph.now.graph c.loop-place.place c.in-Some.name c.requires c.in-Some.is c.loop-place.invariant.place in
    omega (arith, ap length h.rest, ap length (ap (blocks_from c.args.graph.now.graph.blocks) c.next-place.ensures ∙ h.step.next))

pub loop-place-preserved : goal.loop-place-preserved
loop-place-preserved c =
    let h = here c.args.graph.now.graph c.loop-place.place c.in-Some.name c.requires c.in-Some.is c.loop-place.invariant.place in
    let none : is_listed (flat_map item_calls h.step.block.items) c.args.number ≡ false =
    sym (ap (λ is. is_listed (flat_map item_calls is) c.args.number) (c.items.ensures ∙ h.items)) ∙ sym c.has_call.ensures ∙ c.if-has_call.false in
    let next = ap (blocks_from c.args.graph.now.graph.blocks) c.next-place.ensures ∙ h.step.next in
    record {
      place = rw c.next-place.ensures h.step.there;
      same =
          c.loop-place.invariant.same
          ∙ ap (λ bs. is_called_in (λ n. true) bs c.args.number) h.rest
          ∙ ap (λ t. t || is_called_in (λ n. true) h.step.others c.args.number) none
          ∙ ap (λ bs. is_called_in (λ n. true) bs c.args.number) (sym next);
    }
