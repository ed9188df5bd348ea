use Rattle.std.proofs.Common.{◌≡◌, length, sym, ap, subst, arith, ◌∙◌}
use Rattle.std.proofs.lemmas.Option.{slice_get-get_or}
use Rattle.std.proofs.lemmas.Result.{IfOk-weaker}
use Rattle.sq_finger.specs.Groups.{group_count, groups_of}
use Rattle.sq_fold.specs.Splitting.{AreSources}
use Rattle.sq_fold.proofs.Splits.{lead_first, lead_next, lead_few, lead_end}
use Rattle.sq_fold.proofs.splitting.sources.Goals as goal

pub loop-i-init : goal.loop-i-init
loop-i-init c = rw (c.new-from.ensures.items, c.new-to.ensures.items) (lead_first c.args.nodes.now)

pub loop-i-preserved : goal.loop-i-preserved
loop-i-preserved c =
    let nodes = c.args.nodes.now in
    rw (c.in_ok-push-3.ensures.items, c.in_ok-push-4.ensures.items, c.in_ok-push.ensures.items, c.in_ok-push-2.ensures.items)
    (lead_next nodes c.loop-i.i c.loop-i.from.items c.loop-i.to.items _ c.below.result c.below-in-loop-i.result c.loop-i.invariant
    (slice_get-get_or nodes c.loop-i.i _ c.loop-i-test.true) c.below.ensures c.below-in-loop-i.ensures)

pub by_number-requires-clause-many : goal.by_number-requires-clause-many
by_number-requires-clause-many c = ap length c.deref-2.ensures.value ∙ c.loop-i.invariant.many ∙ sym (ap length c.deref.ensures.value)

pub by_number-requires-clause-few : goal.by_number-requires-clause-few
by_number-requires-clause-few c =
    let few = lead_few c.args.nodes.now c.loop-i.i c.loop-i.from.items c.loop-i.to.items c.loop-i.invariant in
    let same = ap group_count c.deref-2.ensures.value in
    let all = c.requires in
    omega arith

pub returns : goal.returns
returns c =
    let nodes = c.args.nodes.now in
    let are = lead_end nodes c.loop-i.i c.loop-i.from.items c.loop-i.to.items c.loop-i.invariant c.loop-i-test.false in
    let here : AreSources nodes (groups_of c.deref-2.result.now c.deref.result.now) = rw (c.deref.ensures.value, c.deref-2.ensures.value) are in
    IfOk-weaker c.by_number.result (λ groups. groups ≡ groups_of c.deref-2.result.now c.deref.result.now) (AreSources nodes)
    (λ groups e. subst (AreSources nodes) (sym e) here)
    c.by_number.ensures
