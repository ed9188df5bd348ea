use Rattle.law_runs.proofs.Loops.{Going}
use Rattle.law_program.specs.Monitored.{monitored_step}
use Rattle.sq_tagged.specs.Views.{layout_of}
use Rattle.sq_monitor.specs.Views.{watched_of}
use Rattle.sq_monitor.proofs.hart.Hart.run.Given as goal

abbrev pub invariant-loop-step : goal.invariant-loop-step
invariant-loop-step l =
    Going (monitored_step (layout_of l.scene.setting) l.scene.text) l.step (watched_of l.initial.self) (watched_of l.self) l.initial.log l.log
