use Rattle.law_runs.proofs.Loops.{Going}
use Rattle.sq_machine.specs.Steps.{step_of}
use Rattle.sq_machine.specs.Views.{state_of, world_of}
use Rattle.sq_machine.proofs.hart.Hart.run.Given as goal

abbrev pub invariant-loop-step : goal.invariant-loop-step
invariant-loop-step l =
    Going (step_of (world_of l.world)) l.step (state_of l.initial.self) (state_of l.self) l.initial.log l.log
