use Rattle.std.proofs.Common.{◌+◌, ◌-◌, ◌≤◌, ◌<◌, List, length, sym, ap, ◌∙◌, subst, arith}
use Rattle.sq_graph.specs.declared.item.Item.{Item}
use Rattle.sq_graph.specs.Blocks.{items_of}
use Rattle.sq_graph.specs.Operations.{called_at, called_body, inlined}
use Rattle.sq_graph.proofs.OperationRules.{inlined_rules}
use Rattle.sq_outline.proofs.Spreading.{inlined_body}
use Rattle.sq_outline.proofs.InlineSteps.{item_at, call_there_at, call_is, no_step, body_fits, room_left}
use Rattle.sq_outline.proofs.Totals.{total_by, replaced_total}
use Rattle.sq_outline.proofs.inline.inline_at.Goals as goal

pub inline-requires-clause-spare : goal.inline-requires-clause-spare
inline-requires-clause-spare c =
    let g = c.args.graph.now.graph in
    let is = item_at g c.args.block c.args.at c.items.result.now c.index-items-at.result c.items.ensures c.requires.there c.index-items-at.is in
    let there = call_there_at g c.args.procedure c.args.block c.args.at c.index-items-at.result is (sym c.is_call.ensures ∙ c.if-is_call.true) in
    subst (λ (body : List Item). length body ≤ c.args.graph.now.spare.items) (sym (inlined_body g c.args.procedure c.args.block c.args.at there))
    (body_fits c.args.procedure c.args.block c.args.at c.args.graph.now c.learn.ensures.rules there c.requires.room)

pub inline-requires-clause-rules : goal.inline-requires-clause-rules
inline-requires-clause-rules c = inlined_rules c.args.graph.now.graph c.args.block c.args.at c.learn.ensures.rules c.requires.block

pub returns-then-is_call-clause-graph : goal.returns-then-is_call-clause-graph
returns-then-is_call-clause-graph c =
    let g = c.args.graph.now.graph in
    let is = item_at g c.args.block c.args.at c.items.result.now c.index-items-at.result c.items.ensures c.requires.there c.index-items-at.is in
    c.inline.ensures.graph ∙ sym (call_is g c.args.procedure c.args.block c.args.at c.index-items-at.result is (sym c.is_call.ensures ∙ c.if-is_call.true))

pub returns-then-is_call-clause-room : goal.returns-then-is_call-clause-room
returns-then-is_call-clause-room c =
    let g = c.args.graph.now.graph in
    let is = item_at g c.args.block c.args.at c.items.result.now c.index-items-at.result c.items.ensures c.requires.there c.index-items-at.is in
    let there = call_there_at g c.args.procedure c.args.block c.args.at c.index-items-at.result is (sym c.is_call.ensures ∙ c.if-is_call.true) in
    room_left c.args.procedure c.args.block c.args.at c.args.graph.now c.inline.new.self c.learn.ensures.rules there c.requires.room c.inline.ensures.graph
    (ap (λ r. r.items) c.inline.ensures.spare ∙ ap (λ (body : List Item). c.args.graph.now.spare.items + 1 - length body) (inlined_body g c.args.procedure c.args.block c.args.at there))

pub returns-then-is_call-clause-total : goal.returns-then-is_call-clause-total
returns-then-is_call-clause-total c =
    let g = c.args.graph.now.graph in
    let spare = c.args.graph.now.spare in
    let by = called_body g (called_at g c.args.block c.args.at) in
    let is = item_at g c.args.block c.args.at c.items.result.now c.index-items-at.result c.items.ensures c.requires.there c.index-items-at.is in
    let there = call_there_at g c.args.procedure c.args.block c.args.at c.index-items-at.result is (sym c.is_call.ensures ∙ c.if-is_call.true) in
    let fits : length (called_body g (called_at g c.args.block c.args.at)) ≤ c.args.graph.now.spare.items =
    subst (λ (body : List Item). length body ≤ c.args.graph.now.spare.items) (sym (inlined_body g c.args.procedure c.args.block c.args.at there))
    (body_fits c.args.procedure c.args.block c.args.at c.args.graph.now c.learn.ensures.rules there c.requires.room) in
    let within : c.args.at < length (items_of g c.args.block) = c.requires.there in
    total_by c.args.graph.now c.inline.new.self (inlined g c.args.block c.args.at) (record spare { items = spare.items + 1 - length by }) c.inline.ensures.graph c.inline.ensures.spare
    (replaced_total g c.args.block c.args.at 1 by spare c.requires.block (omega (arith, within)) (omega (arith, fits)))

pub returns-else-is_call-clause-graph : goal.returns-else-is_call-clause-graph
returns-else-is_call-clause-graph c =
    let g = c.args.graph.now.graph in
    let is = item_at g c.args.block c.args.at c.items.result.now c.index-items-at.result c.items.ensures c.requires.there c.index-items-at.is in
    sym (no_step g c.args.procedure c.args.block c.args.at c.index-items-at.result is (sym c.is_call.ensures ∙ c.if-is_call.false))
