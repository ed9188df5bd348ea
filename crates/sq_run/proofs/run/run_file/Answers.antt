-- the log is empty at first, so it holds the events of the trace
use Rattle.std.proofs.Common.{ap, ◌∙◌, ◌++◌, codes}
use Rattle.sq_system.specs.Lines.{events_text, end_text}
use Rattle.sq_system.specs.Starts.{start_of}
use Rattle.sq_machine.specs.Views.{machine_state, machine_world}
use Rattle.sq_run.proofs.Telling.{status_is, text_is}
use Rattle.sq_run.proofs.run.run_file.Goals as goal

pub returns-clause-text : goal.returns-clause-text
returns-clause-text c =
    c.from_vec.ensures ∙ c.in_ok-text.ensures ∙ ap (λ end. events_text c.run.new.log ++ (end_text end ++ codes "\n")) c.halt_of.ensures
    ∙ text_is c.args.file.now (start_of c.args.start.now) c.args.limit (machine_world c.in_ok-machine.machine) (machine_state c.in_ok-machine.machine) (machine_state c.run.new.self) c.in_ok-machine.ensures.world c.in_ok-machine.ensures.state c.in_ok-outcome.outcome c.in_ok-outcome.ensures.status c.new-log.result c.run.new.log c.new-log.ensures c.in_ok-outcome.ensures.made

pub returns-clause-outcome : goal.returns-clause-outcome
returns-clause-outcome c =
    status_is c.args.file.now (start_of c.args.start.now) c.args.limit (machine_world c.in_ok-machine.machine) (machine_state c.in_ok-machine.machine) (machine_state c.run.new.self) c.in_ok-machine.ensures.world c.in_ok-machine.ensures.state c.in_ok-outcome.outcome c.in_ok-outcome.ensures.status
