-- the sweeps of the passes before windows, and then theirs
use Rattle.law_follow.proofs.Following.{graph_follows_through}
use Rattle.sq_drive.specs.declared.rows.RowPass.TheVariants.{Windows}
use Rattle.sq_drive.proofs.RowPasses.{swept_last}
use Rattle.sq_drive.proofs.rows.AllRowsPass.sweep.Goals as goal

pub returns-clause-follows : goal.returns-clause-follows
returns-clause-follows c =
    graph_follows_through c.args.graph.now.graph c.sweep_earlier.new.graph.graph _ c.in_ok-swept.ensures.follows c.sweep.ensures.follows

pub returns-clause-rewritten : goal.returns-clause-rewritten
returns-clause-rewritten c =
    swept_last Windows c.args.savings c.in_ok-swept.swept c.args.graph.now.graph c.sweep_earlier.new.graph.graph _ c.sweep.result c.in_ok-swept.ensures.rewritten c.sweep.ensures.rewritten
