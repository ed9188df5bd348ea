use Rattle.std.proofs.Common.{Ok, ap, ◌∙◌}
use Rattle.sq_drive.proofs.RowPasses.{none_of_rows}
use Rattle.sq_drive.proofs.rows.AllRowsPass.find.Goals as goal

pub returns-clause-none : goal.returns-clause-none
returns-clause-none c = λ e.
    none_of_rows c.args.graph.now.graph (c.find_earlier.ensures.none (c.in_ok-cut.was ∙ ap Ok c.in_default.is)) (c.find.ensures.none e)
