use Rattle.std.proofs.Common.{sym, subst}
use Rattle.sq_pass.specs.declared.cut.Cut.{Cut}
use Rattle.sq_cert.specs.declared.step.Step.{Step}
use Rattle.sq_drive.specs.Making.{IsMade}
use Rattle.sq_drive.specs.Replay.{cut_of, IsGiven}
use Rattle.sq_drive.proofs.tracking.making.make.Goals as goal

pub returns-in-L-clause-made : goal.returns-in-L-clause-made
returns-in-L-clause-made c = λ e.
    let old = c.args.graph.now.graph in
    subst (λ (step : Step). IsMade (cut_of old step) old c.make_move.new.graph.graph) (sym c.in-L.is) (c.make_move.ensures.made e)

pub returns-clause-made : goal.returns-clause-made
returns-clause-made c = λ e.
    let old = c.args.graph.now.graph in
    subst (λ (cut : Cut). IsMade cut old c.make_row.new.graph.graph) c.in_ok-cut.ensures (c.make_row.ensures.made e)

pub returns-clause-none : goal.returns-clause-none
returns-clause-none c = λ e.
    subst (λ (cut : Cut). ¬ IsGiven c.args.graph.now.graph cut) c.in_ok-cut.ensures (c.make_row.ensures.none e)
