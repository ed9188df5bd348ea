-- the log is empty at first, so it holds the events of the trace
use Rattle.std.proofs.Common.{rules, ◌∙◌}
use Rattle.sq_system.specs.Starts.{start_of}
use Rattle.sq_monitor.specs.Views.{watch_layout, watch_text, watch_state}
use Rattle.sq_monitor.proofs.Telling.{outcome_is, text_is}
use Rattle.sq_monitor.proofs.transcript.watch_file.Goals as goal

pub returns-in_err-watch-clause-bad : goal.returns-in_err-watch-clause-bad
returns-in_err-watch-clause-bad c = λ told p is. c.in_err-watch.ensures.bad (search rules) p is

pub returns-clause-text : goal.returns-clause-text
returns-clause-text c = λ p is.
    let watch = c.in_ok-watch.watch in
    c.from_vec.ensures ∙ c.in_ok-text.ensures
    ∙ text_is c.args.elf.now p (start_of c.args.start.now) c.args.limit (watch_layout watch) (watch_text watch) (watch_state watch) (watch_state c.run.new.self) (c.in_ok-watch.ensures.layout p is) (c.in_ok-watch.ensures.text p is) (c.in_ok-watch.ensures.state p is) c.in_ok-outcome.outcome c.in_ok-outcome.ensures.outcome c.new-log.result c.run.new.log c.new-log.ensures c.in_ok-outcome.ensures.made

pub returns-clause-outcome : goal.returns-clause-outcome
returns-clause-outcome c = λ p is.
    let watch = c.in_ok-watch.watch in
    outcome_is c.args.elf.now p (start_of c.args.start.now) c.args.limit (watch_layout watch) (watch_text watch) (watch_state watch) (watch_state c.run.new.self) (c.in_ok-watch.ensures.layout p is) (c.in_ok-watch.ensures.text p is) (c.in_ok-watch.ensures.state p is) c.in_ok-outcome.outcome c.in_ok-outcome.ensures.outcome
