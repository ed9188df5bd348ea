use Rattle.std.proofs.Common.{sym, ap, ◌∙◌}
use Rattle.sq_drive.specs.declared.rows.RowPass.TheVariants.{Jumps, Tails}
use Rattle.sq_drive.specs.Rows.{pass_of}
use Rattle.sq_drive.proofs.RowPasses.{of_its_row}
use Rattle.sq_drive.proofs.rows.AllRowsPass.admit.Goals as goal

pub returns-in-Jumps-clause-none : goal.returns-in-Jumps-clause-none
returns-in-Jumps-clause-none c = λ e given completed candidate.
    c.admit.ensures.none e given completed (of_its_row Jumps c.args.graph.now.graph given candidate (ap pass_of completed.row ∙ sym c.of.ensures ∙ c.in-Jumps.is))

pub returns-in-Tails-clause-none : goal.returns-in-Tails-clause-none
returns-in-Tails-clause-none c = λ e given completed candidate.
    c.admit-in-Tails.ensures.none e given completed (of_its_row Tails c.args.graph.now.graph given candidate (ap pass_of completed.row ∙ sym c.of.ensures ∙ c.in-Tails.is))
