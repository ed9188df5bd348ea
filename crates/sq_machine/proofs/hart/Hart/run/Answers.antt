use Rattle.law_runs.proofs.Loops.{turn, ended}
use Rattle.sq_machine.specs.Steps.{step_of, event_in}
use Rattle.sq_machine.specs.Views.{state_of, world_of}
use Rattle.sq_machine.proofs.Moves.{has_gone, has_ended}
use Rattle.sq_machine.proofs.hart.Hart.run.Goals as goal

pub loop-step-preserved : goal.loop-step-preserved
loop-step-preserved c =
    let step = step_of (world_of c.args.world.now) in
    let s = has_gone (step (state_of c.loop-step.self)) c.in_ok-step.field-0 (state_of c.loop-step.self) (state_of c.step.new.self) c.loop-step.log c.step.new.log c.in_ok-step.ensures.ok c.in-Went.is in
    turn step (event_in (step (state_of c.loop-step.self))) c.loop-step.invariant s.0 s.1

pub returns-in-Ended-clause-made : goal.returns-in-Ended-clause-made
returns-in-Ended-clause-made c =
    let step = step_of (world_of c.args.world.now) in
    let s = has_ended (step (state_of c.loop-step.self)) c.in_ok-step.field-0 (state_of c.loop-step.self) (state_of c.step.new.self) c.loop-step.log c.step.new.log c.in-Ended.halt c.in_ok-step.ensures.ok c.in-Ended.is in
    (ended step c.in-Ended.halt c.loop-step-test.true c.loop-step.invariant s.0 s.1 s.2).0

pub returns-in-Ended-clause-status : goal.returns-in-Ended-clause-status
returns-in-Ended-clause-status c =
    let step = step_of (world_of c.args.world.now) in
    let s = has_ended (step (state_of c.loop-step.self)) c.in_ok-step.field-0 (state_of c.loop-step.self) (state_of c.step.new.self) c.loop-step.log c.step.new.log c.in-Ended.halt c.in_ok-step.ensures.ok c.in-Ended.is in
    (ended step c.in-Ended.halt c.loop-step-test.true c.loop-step.invariant s.0 s.1 s.2).1
