use Rattle.std.proofs.Common.{◌≡◌, ◌<◌, ◌^◌, sym, ap, ◌∙◌, arith}
use Rattle.law_runs.specs.Runs.{trace}
use Rattle.law_runs.proofs.Loops.{turn, ended, broken}
use Rattle.law_program.specs.Monitored.{monitored_step}
use Rattle.sq_tagged.specs.Views.{layout_of}
use Rattle.sq_monitor.specs.Steps.{event_in}
use Rattle.sq_monitor.specs.Views.{watched_of}
use Rattle.sq_monitor.proofs.Outcomes.{told_limit, told_end, told_break}
use Rattle.sq_monitor.proofs.QuietSteps.{has_gone, has_ended, has_broken}
use Rattle.sq_monitor.proofs.Watching.{breaks_below}
use Rattle.sq_monitor.proofs.hart.Hart.run.Goals as goal

pub loop-step-preserved : goal.loop-step-preserved
loop-step-preserved c =
    let step = monitored_step (layout_of c.args.scene.now.setting) c.args.scene.now.text in
    let s = has_gone (step (watched_of c.loop-step.self)) c.in_ok-step.field-0 (watched_of c.loop-step.self) (watched_of c.step.new.self) c.loop-step.log c.step.new.log c.in_ok-step.ensures.ok c.in-Went.is in
    turn step (event_in (step (watched_of c.loop-step.self))) c.loop-step.invariant s.0 s.1

pub returns-in-Ended-clause-made : goal.returns-in-Ended-clause-made
returns-in-Ended-clause-made c =
    let step = monitored_step (layout_of c.args.scene.now.setting) c.args.scene.now.text in
    let s = has_ended (step (watched_of c.loop-step.self)) c.in_ok-step.field-0 (watched_of c.loop-step.self) (watched_of c.step.new.self) c.loop-step.log c.step.new.log c.in-Ended.halt c.in_ok-step.ensures.ok c.in-Ended.is in
    (ended step s.0.0 c.loop-step-test.true c.loop-step.invariant s.0.1 s.1 s.2).0

pub returns-in-Ended-clause-outcome : goal.returns-in-Ended-clause-outcome
returns-in-Ended-clause-outcome c =
    let step = monitored_step (layout_of c.args.scene.now.setting) c.args.scene.now.text in
    let s = has_ended (step (watched_of c.loop-step.self)) c.in_ok-step.field-0 (watched_of c.loop-step.self) (watched_of c.step.new.self) c.loop-step.log c.step.new.log c.in-Ended.halt c.in_ok-step.ensures.ok c.in-Ended.is in
    told_end step c.args.n (watched_of c.args.self.now) c.in-Ended.halt s.0.0 s.0.2 (ended step s.0.0 c.loop-step-test.true c.loop-step.invariant s.0.1 s.1 s.2).1

pub returns-in-Broke-clause-made : goal.returns-in-Broke-clause-made
returns-in-Broke-clause-made c =
    let step = monitored_step (layout_of c.args.scene.now.setting) c.args.scene.now.text in
    let s = has_broken (step (watched_of c.loop-step.self)) c.in_ok-step.field-0 (watched_of c.loop-step.self) (watched_of c.step.new.self) c.loop-step.log c.step.new.log c.in-Broke.kind c.in_ok-step.ensures.ok c.in-Broke.is in
    (broken step c.in-Broke.kind c.loop-step-test.true c.loop-step.invariant s.0 s.1 s.2).0

pub returns-in-Broke-clause-outcome : goal.returns-in-Broke-clause-outcome
unfolding watched_of
returns-in-Broke-clause-outcome c =
    let step = monitored_step (layout_of c.args.scene.now.setting) c.args.scene.now.text in
    let s = has_broken (step (watched_of c.loop-step.self)) c.in_ok-step.field-0 (watched_of c.loop-step.self) (watched_of c.step.new.self) c.loop-step.log c.step.new.log c.in-Broke.kind c.in_ok-step.ensures.ok c.in-Broke.is in
    let b = broken step c.in-Broke.kind c.loop-step-test.true c.loop-step.invariant s.0 s.1 s.2 in
    told_break step c.args.n (watched_of c.args.self.now) c.in-Broke.kind c.step.new.self.pc (ap (λ w. w.pc) b.0.state) b.2

pub overflow_cast-pc : goal.overflow_cast-pc
unfolding watched_of
overflow_cast-pc c =
    let step = monitored_step (layout_of c.args.scene.now.setting) c.args.scene.now.text in
    let s = has_broken (step (watched_of c.loop-step.self)) c.in_ok-step.field-0 (watched_of c.loop-step.self) (watched_of c.step.new.self) c.loop-step.log c.step.new.log c.in-Broke.kind c.in_ok-step.ensures.ok c.in-Broke.is in
    let pc : c.step.new.self.pc ≡ c.loop-step.self.pc = ap (λ w. w.pc) s.1 in
    let h : c.loop-step.self.pc < 2 ^ 32 = breaks_below c.in_ok-step.field-0 (watched_of c.loop-step.self) c.in-Broke.kind c.in_ok-step.ensures.broke c.in-Broke.is in
    omega arith

pub returns-clause-outcome : goal.returns-clause-outcome
returns-clause-outcome c =
    let step = monitored_step (layout_of c.args.scene.now.setting) c.args.scene.now.text in
    let old = watched_of c.args.self.now in
    let e : c.loop-step.step ≡ c.args.n = omega arith in
    told_limit step c.args.n old (ap (λ k. (trace step k old).status) (sym e) ∙ c.loop-step.invariant.running)
