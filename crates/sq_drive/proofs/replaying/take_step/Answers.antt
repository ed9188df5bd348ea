use Rattle.std.proofs.Common.{sym, subst}
use Rattle.law_follow.proofs.Following.{graph_follows_itself}
use Rattle.sq_pass.specs.declared.cut.Cut.{Cut}
use Rattle.sq_cert.specs.declared.step.Step.{Step}
use Rattle.sq_drive.specs.Replay.{cut_of, IsGiven, IsTaken}
use Rattle.sq_drive.proofs.replaying.take_step.Goals as goal

pub returns-in-L-clause-taken : goal.returns-in-L-clause-taken
returns-in-L-clause-taken c = λ e.
    let old = c.args.graph.now.graph in
    subst (λ (step : Step). IsTaken (cut_of old step) old c.take_move.new.graph.graph) (sym c.in-L.is) (c.take_move.ensures.taken e)

pub returns-in_err-cut-clause-follows : goal.returns-in_err-cut-clause-follows
returns-in_err-cut-clause-follows c = graph_follows_itself c.args.graph.now.graph

pub returns-clause-taken : goal.returns-clause-taken
returns-clause-taken c = λ e.
    let old = c.args.graph.now.graph in
    subst (λ (cut : Cut). IsTaken cut old c.take_row.new.graph.graph) c.in_ok-cut.ensures (c.take_row.ensures.taken e)

pub returns-clause-none : goal.returns-clause-none
returns-clause-none c = λ e.
    subst (λ (cut : Cut). ¬ IsGiven c.args.graph.now.graph cut) c.in_ok-cut.ensures (c.take_row.ensures.none e)
