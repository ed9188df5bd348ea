use Rattle.std.proofs.Common.{◌+◌, ◌-◌, ◌/◌, ◌<◌, max, length, refl, ap, ◌∙◌, arith}
use Rattle.sq_graph.specs.Blocks.{body_of}
use Rattle.sq_layout.proofs.Walks.{items_few}
use Rattle.sq_outline.proofs.WindowsHalves.{halved, none_called, right_may, fits, some, matches, there, ahead_there, left_may, all_parts, starts_behind}
use Rattle.sq_outline.proofs.windows.window.+call_between.Goals as goal

pub returns-then-end-first-clause-graph : goal.returns-then-end-first-clause-graph
returns-then-end-first-clause-graph t c =
    let short : c.args.end - c.args.first < length (body_of c.args.graph.now.graph c.args.procedure) = omega (arith, c.if-end-first.true, ap length c.body-window.ensures) in
    none_called c.args.graph.now.graph c.args.block c.args.procedure c.args.first c.args.end c.requires.order c.requires.within short

pub overflow_add-at : goal.overflow_add-at
overflow_add-at t c =
    let parts = halved c.args.graph.now.graph c.args.block c.args.procedure c.args.first _ c.args.end c.in-Some.at
    (max (c.args.end - (c.args.end - c.args.first) / 2) (c.in-Some.at + length c.body-window.result.now)) c.body-window.result.now c.items.result.now
    c.learn.ensures.rules c.requires.order c.requires.within c.requires.may c.body-window.ensures c.items.ensures refl c.in-Some.ensures in
    omega (arith, fits parts, ap length c.body-window.ensures, c.ranges.end.fits)

pub call_between-requires-in-Some : goal.call_between-requires-in-Some
call_between-requires-in-Some t c =
    let parts = halved c.args.graph.now.graph c.args.block c.args.procedure c.args.first _ c.args.end c.in-Some.at c.max.result c.body-window.result.now c.items.result.now
    c.learn.ensures.rules c.requires.order c.requires.within c.requires.may c.body-window.ensures c.items.ensures c.max.ensures c.in-Some.ensures in
    let far = fits parts in
    let longer = c.requires.may.some in
    let size = ap length c.body-window.ensures in
    (omega (arith, c.if-end-first.false, size, longer, c.max.ensures), (c.requires.block, (omega (arith, far, size, c.max.ensures), (c.requires.within, right_may parts))))

pub overflow_cast-at : goal.overflow_cast-at
overflow_cast-at t c =
    let parts = halved c.args.graph.now.graph c.args.block c.args.procedure c.args.first _ c.args.end c.in-Some.at c.max.result c.body-window.result.now c.items.result.now
    c.learn.ensures.rules c.requires.order c.requires.within c.requires.may c.body-window.ensures c.items.ensures c.max.ensures c.in-Some.ensures in
    let few = items_few c.args.graph.now.graph c.args.block c.learn.ensures.few in
    let within = c.requires.within in
    omega (arith, fits parts, few, within)

pub call-requires-clause-some : goal.call-requires-clause-some
call-requires-clause-some t c =
    let parts = halved c.args.graph.now.graph c.args.block c.args.procedure c.args.first _ c.args.end c.in-Some.at c.max.result c.body-window.result.now c.items.result.now
    c.learn.ensures.rules c.requires.order c.requires.within c.requires.may c.body-window.ensures c.items.ensures c.max.ensures c.in-Some.ensures in
    some parts c.call_between-in-Some.new.graph.graph c.call_between-in-Some.ensures.graph c.learn-in-Some.ensures.rules

pub call-requires-clause-matching : goal.call-requires-clause-matching
call-requires-clause-matching t c =
    let parts = halved c.args.graph.now.graph c.args.block c.args.procedure c.args.first _ c.args.end c.in-Some.at c.max.result c.body-window.result.now c.items.result.now
    c.learn.ensures.rules c.requires.order c.requires.within c.requires.may c.body-window.ensures c.items.ensures c.max.ensures c.in-Some.ensures in
    matches parts c.call_between-in-Some.new.graph.graph c.call_between-in-Some.ensures.graph c.learn-in-Some.ensures.rules

pub call_between-requires-in-Some-2 : goal.call_between-requires-in-Some-2
call_between-requires-in-Some-2 t c =
    let parts = halved c.args.graph.now.graph c.args.block c.args.procedure c.args.first _ c.args.end c.in-Some.at c.max.result c.body-window.result.now c.items.result.now
    c.learn.ensures.rules c.requires.order c.requires.within c.requires.may c.body-window.ensures c.items.ensures c.max.ensures c.in-Some.ensures in
    let h = c.call_between-in-Some.new.graph.graph in
    let is = c.call_between-in-Some.ensures.graph in
    let rules = c.learn-in-Some.ensures.rules in
    let k = c.call.new.graph.graph in
    let called = c.call.ensures.graph in
    let far = fits parts in
    let longer = c.requires.may.some in (
      omega (arith, far, longer, starts_behind parts),
      (there parts h is rules k called, (starts_behind parts, (ahead_there parts h is rules k called, left_may parts h is rules k called))),
    )

pub returns-in-Some-clause-graph : goal.returns-in-Some-clause-graph
returns-in-Some-clause-graph t c =
    let parts = halved c.args.graph.now.graph c.args.block c.args.procedure c.args.first _ c.args.end c.in-Some.at c.max.result c.body-window.result.now c.items.result.now
    c.learn.ensures.rules c.requires.order c.requires.within c.requires.may c.body-window.ensures c.items.ensures c.max.ensures c.in-Some.ensures in
    c.call_between-in-Some-2.ensures.graph
    ∙ all_parts parts c.call_between-in-Some.new.graph.graph c.call_between-in-Some.ensures.graph c.learn-in-Some.ensures.rules c.call.new.graph.graph c.call.ensures.graph
