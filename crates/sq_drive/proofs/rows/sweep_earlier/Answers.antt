-- what the sweeps of the passes do, one after another
use Rattle.law_follow.proofs.Following.{graph_follows_through}
use Rattle.sq_drive.specs.declared.rows.RowPass.TheVariants.{Jumps, Tails, Outlines}
use Rattle.sq_drive.proofs.RowPasses.{swept, swept_on, swept_last}
use Rattle.sq_drive.proofs.rows.sweep_earlier.Goals as goal

pub returns-in_err-after_tails-clause-follows : goal.returns-in_err-after_tails-clause-follows
returns-in_err-after_tails-clause-follows c =
    graph_follows_through c.args.graph.now.graph c.sweep.new.graph.graph c.sweep-2.new.graph.graph c.in_ok-after_jumps.ensures.follows c.sweep-2.ensures.follows

pub returns-clause-rewritten : goal.returns-clause-rewritten
returns-clause-rewritten c =
    let old = c.args.graph.now.graph in
    let mid = c.sweep.new.graph.graph in
    let before = c.args.savings in
    let at = c.in_ok-after_jumps.after_jumps in
    let jumps = swept Jumps before at old mid c.in_ok-after_jumps.ensures.rewritten in
    let tails = swept_on Tails before at c.in_ok-after_tails.after_tails old mid c.sweep-2.new.graph.graph jumps c.in_ok-after_tails.ensures.rewritten in
    swept_last Outlines before c.in_ok-after_tails.after_tails old c.sweep-2.new.graph.graph _ c.sweep-3.result tails c.sweep-3.ensures.rewritten

pub returns-clause-follows : goal.returns-clause-follows
returns-clause-follows c =
    let tails = graph_follows_through c.args.graph.now.graph c.sweep.new.graph.graph c.sweep-2.new.graph.graph c.in_ok-after_jumps.ensures.follows c.in_ok-after_tails.ensures.follows in
    graph_follows_through c.args.graph.now.graph c.sweep-2.new.graph.graph _ tails c.sweep-3.ensures.follows
