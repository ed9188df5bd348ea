use Rattle.law_follow.proofs.Following.{graph_follows_through}
use Rattle.sq_pass.proofs.Rewriting.{rewritten_itself, rewritten_through}
use Rattle.sq_outline.specs.WindowsCandidates.{IsWindowsCandidate, windows_described}
use Rattle.sq_outline.proofs.windows.sweep.sweep_made.Goals as goal

pub loop-look-init : goal.loop-look-init
loop-look-init c = rewritten_itself IsWindowsCandidate windows_described c.args.savings c.args.graph.now.graph c.requires.canonical

pub loop-look-preserved : goal.loop-look-preserved
loop-look-preserved c =
    rewritten_through IsWindowsCandidate windows_described c.args.savings c.loop-look.after c.in_ok-after.after c.args.graph.now.graph c.loop-look.graph.graph c.make_each.new.graph.graph c.loop-look.invariant c.in_ok-after.ensures.rewritten

pub returns-in_err-after-clause-follows : goal.returns-in_err-after-clause-follows
returns-in_err-after-clause-follows c =
    graph_follows_through c.args.graph.now.graph c.loop-look.graph.graph c.make_each.new.graph.graph c.loop-look.invariant.lighter.follows c.make_each.ensures.follows
