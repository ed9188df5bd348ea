use Rattle.std.proofs.Common.{subst}
use Rattle.sq_fold.specs.Stable.{IsFinerBy}
use Rattle.sq_fold.proofs.Refining.{rounds_smaller, same_numbers}
use Rattle.sq_fold.proofs.Histories.{history_first, history_next, history_end}
use Rattle.sq_fold.proofs.history.all_rounds.Goals as goal

pub loop-alloc-init : goal.loop-alloc-init
loop-alloc-init c =
    let made = subst (λ cs. IsFinerBy c.args.nodes.now cs c.in_ok-finer.finer.items) c.deref.ensures.value c.in_ok-finer.ensures in
    history_first c.args.nodes.now c.new-rounds.result c.new-classes.result.items c.in_ok-finer.finer.items c.new-rounds.ensures c.new-classes.ensures.items made

pub loop-alloc-smaller : goal.loop-alloc-smaller
loop-alloc-smaller c = rounds_smaller c.args.nodes.now c.loop-alloc.classes.items c.loop-alloc.finer.items c.ne.result c.loop-alloc.invariant.rounds c.ne.ensures c.loop-alloc-test.true

pub loop-alloc-preserved : goal.loop-alloc-preserved
loop-alloc-preserved c =
    let finer = c.loop-alloc.finer.items in
    let made = subst (λ cs. IsFinerBy c.args.nodes.now cs c.in_ok-finer-2.finer.items) c.deref-in-loop-alloc.ensures.value c.in_ok-finer-2.ensures in
    history_next c.args.nodes.now c.loop-alloc.rounds c.push.new.self c.loop-alloc.classes.items finer c.in_ok-finer-2.finer.items c.loop-alloc.invariant c.in_ok-push.ensures made

pub returns : goal.returns
returns c =
    history_end c.args.nodes.now c.loop-alloc.rounds c.push-2.new.self c.loop-alloc.classes.items c.loop-alloc.finer.items c.loop-alloc.invariant c.in_ok-push-2.ensures
    (same_numbers c.loop-alloc.finer.items c.loop-alloc.classes.items c.ne.result c.ne.ensures c.loop-alloc-test.false)
