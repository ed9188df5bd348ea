use Rattle.std.proofs.Common.{Ok, ap, subst}
use Rattle.sq_graph.specs.Graph.{Graph}
use Rattle.sq_chain.specs.Moves.{IsStill}
use Rattle.sq_drive.proofs.NotedSteps.{nothing_left}
use Rattle.sq_drive.proofs.noting.note_step.Goals as goal

pub returns-in-None-clause-left : goal.returns-in-None-clause-left
returns-in-None-clause-left c = λ e.
    let still = subst (λ (g : Graph). IsStill g) (c.in_ok-taken.ensures.same (ap Ok c.in-None.is)) (c.note_move.ensures.still e) in
    nothing_left c.args.graph.now.graph (c.in_ok-taken.ensures.none (ap Ok c.in-None.is)) still
