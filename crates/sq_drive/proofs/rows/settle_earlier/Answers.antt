use Rattle.std.proofs.Common.{Ok, ap, ◌∙◌}
use Rattle.law_follow.proofs.Following.{graph_follows_through}
use Rattle.sq_pass.proofs.Rewriting.{rewritten_itself, rewritten_through}
use Rattle.sq_drive.specs.Rows.{IsRowCandidate, row_described}
use Rattle.sq_drive.proofs.rows.settle_earlier.Goals as goal

pub loop-live-init : goal.loop-live-init
loop-live-init c = rewritten_itself IsRowCandidate row_described c.args.savings c.args.graph.now.graph c.requires.canonical

pub loop-live-preserved : goal.loop-live-preserved
loop-live-preserved c =
    rewritten_through IsRowCandidate row_described c.args.savings c.loop-live.savings c.in_ok-savings.savings c.args.graph.now.graph c.loop-live.graph.graph c.rewrite_earlier.new.graph.graph
    c.loop-live.invariant c.in_ok-savings.ensures.rewritten

pub returns-in_default-clause-left : goal.returns-in_default-clause-left
returns-in_default-clause-left c = c.find_earlier.ensures.none (c.in_ok-cut.was ∙ ap Ok c.in_default.is)

pub returns-in_err-savings-clause-follows : goal.returns-in_err-savings-clause-follows
returns-in_err-savings-clause-follows c =
    graph_follows_through c.args.graph.now.graph c.loop-live.graph.graph c.rewrite_earlier.new.graph.graph c.loop-live.invariant.lighter.follows c.rewrite_earlier.ensures.follows
