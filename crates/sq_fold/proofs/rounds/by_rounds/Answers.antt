use Rattle.std.proofs.Common.{length, ap, sym, subst, ◌∙◌}
use Rattle.std.specs.Prelude.{IsSome}
use Rattle.sq_finger.specs.Numbers.{member_at}
use Rattle.sq_fold.specs.Stable.{IsFinerBy}
use Rattle.sq_fold.proofs.Refining.{rounds_first, rounds_next, rounds_smaller, rounds_end, finer_many, finer_some, same_numbers}
use Rattle.sq_fold.proofs.rounds.by_rounds.Goals as goal

pub loop-alloc-init : goal.loop-alloc-init
loop-alloc-init c =
    let made = subst (λ cs. IsFinerBy c.args.nodes.now cs c.in_ok-finer.finer.items) (c.deref.ensures.value ∙ c.new-classes.ensures.items) c.in_ok-finer.ensures in
    rw c.new-classes.ensures.items (rounds_first c.args.nodes.now c.in_ok-finer.finer.items made)

pub loop-alloc-preserved : goal.loop-alloc-preserved
loop-alloc-preserved c =
    let finer = c.loop-alloc.finer.items in
    let made = subst (λ cs. IsFinerBy c.args.nodes.now cs c.in_ok-finer-2.finer.items) c.deref-in-loop-alloc.ensures.value c.in_ok-finer-2.ensures in
    rounds_next c.args.nodes.now c.loop-alloc.classes.items finer c.in_ok-finer-2.finer.items c.loop-alloc.invariant made

pub loop-alloc-smaller : goal.loop-alloc-smaller
loop-alloc-smaller c = rounds_smaller c.args.nodes.now c.loop-alloc.classes.items c.loop-alloc.finer.items c.ne.result c.loop-alloc.invariant c.ne.ensures c.loop-alloc-test.true

pub returns-clause-many : goal.returns-clause-many
returns-clause-many c =
    let same = same_numbers c.loop-alloc.finer.items c.loop-alloc.classes.items c.ne.result c.ne.ensures c.loop-alloc-test.false in
    ap length (sym same) ∙ finer_many c.args.nodes.now c.loop-alloc.classes.items c.loop-alloc.finer.items c.loop-alloc.invariant.made

pub returns-clause-coarsest : goal.returns-clause-coarsest
returns-clause-coarsest c =
    let same = same_numbers c.loop-alloc.finer.items c.loop-alloc.classes.items c.ne.result c.ne.ensures c.loop-alloc-test.false in
    rounds_end c.args.nodes.now c.loop-alloc.classes.items c.loop-alloc.finer.items c.loop-alloc.invariant same

pub returns-clause-some : goal.returns-clause-some
returns-clause-some c =
    let same = same_numbers c.loop-alloc.finer.items c.loop-alloc.classes.items c.ne.result c.ne.ensures c.loop-alloc-test.false in
    λ i l. subst (λ cs. IsSome (member_at cs i)) same (finer_some c.args.nodes.now c.loop-alloc.classes.items c.loop-alloc.finer.items c.loop-alloc.invariant.made i l)
