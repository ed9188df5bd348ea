use Rattle.std.proofs.Common.{◌-◌, length, sym, ap, ◌∙◌, subst, arith}
use Rattle.sq_layout.proofs.Walks.{items_few}
use Rattle.sq_graph.specs.Calls.{with_span}
use Rattle.sq_pass.specs.Counted.{counted}
use Rattle.sq_pass.specs.declared.cut.Row.TheVariants.{V}
use Rattle.sq_outline.specs.WindowsTaken.{index_of, HasFates}
use Rattle.sq_outline.proofs.WindowsSwept.{call_few, call_swept, call_sweeping}
use Rattle.sq_outline.proofs.WindowsTakenOf.{has_fates}
use Rattle.sq_outline.proofs.windows.sweep.take_call.Goals as goal

pub take-requires-clause-some : goal.take-requires-clause-some
take-requires-clause-some c = let some = c.requires.may.some in let saves = c.requires.may.saves in let is = ap length c.body-n.ensures in omega (arith, some, saves, is)

pub take-requires-clause-within : goal.take-requires-clause-within
take-requires-clause-within c =
    let place = c.args.tried.place in
    subst (λ is. HasFates c.args.taken.now place.block place.at (length is)) (sym c.body-n.ensures)
    (has_fates c.args.graph.now.graph c.args.taken.now c.requires.sweeping.fates place.block place.at _ c.requires.may.callable.block_there c.requires.may.callable.within)

pub overflow_cast-done : goal.overflow_cast-done
overflow_cast-done c =
    let few = items_few c.args.graph.now.graph c.args.tried.place.block c.learn.ensures.few in
    let within = c.requires.may.callable.within in
    let is = ap length c.body-n.ensures in
    omega arith

pub count-requires : goal.count-requires
count-requires c =
    let few = call_few c.args.graph.now.graph c.args.taken.now c.args.tried.place.block c.args.tried.place.at c.args.tried.procedure c.args.savings c.requires.sweeping c.requires.may c.requires.free in
    let is = ap length c.body-n.ensures in
    omega (arith, few, is)

pub returns-clause-sweeping : goal.returns-clause-sweeping
returns-clause-sweeping c =
    let g = c.args.graph.now.graph in
    let old = c.args.taken.now in
    let place = c.args.tried.place in
    let counts = c.count.ensures.value ∙ ap (λ items. counted c.args.savings V (length items - 1)) c.body-n.ensures in
    let fates = c.in_ok-take.ensures.fates ∙ ap (λ items. with_span old.fates.items (index_of old place.block place.at) (length items) c.args.tried.procedure) c.body-n.ensures in
    call_sweeping g old c.take.new.self place.block place.at c.args.tried.procedure c.args.savings c.count.result c.requires.sweeping c.requires.may c.requires.free fates c.take.ensures.ahead counts

pub returns-clause-swept : goal.returns-clause-swept
returns-clause-swept c =
    let g = c.args.graph.now.graph in
    let old = c.args.taken.now in
    let place = c.args.tried.place in
    let counts = c.count.ensures.value ∙ ap (λ items. counted c.args.savings V (length items - 1)) c.body-n.ensures in
    let fates = c.in_ok-take.ensures.fates ∙ ap (λ items. with_span old.fates.items (index_of old place.block place.at) (length items) c.args.tried.procedure) c.body-n.ensures in
    call_swept g old c.take.new.self place.block place.at c.args.tried.procedure c.args.savings c.count.result c.requires.sweeping c.requires.may c.requires.free fates c.take.ensures.ahead counts
