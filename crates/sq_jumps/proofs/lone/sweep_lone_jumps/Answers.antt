use Rattle.sq_jumps.specs.Candidates.{IsCandidate, described}
use Rattle.sq_pass.proofs.Rewriting.{rewritten_itself, rewritten_through}
use Rattle.sq_jumps.proofs.lone.sweep_lone_jumps.Goals as goal

pub loop-round-init : goal.loop-round-init
loop-round-init c = rewritten_itself IsCandidate described c.args.savings c.args.graph.now.graph c.requires.canonical

pub returns-in_err-jumps-clause-follows : goal.returns-in_err-jumps-clause-follows
returns-in_err-jumps-clause-follows c = c.loop-round.invariant.lighter.follows

pub returns-then-is_empty-clause-rewritten : goal.returns-then-is_empty-clause-rewritten
returns-then-is_empty-clause-rewritten c = c.loop-round.invariant

pub returns-then-is_empty-clause-follows : goal.returns-then-is_empty-clause-follows
returns-then-is_empty-clause-follows c = c.loop-round.invariant.lighter.follows

pub remove_each-after-requires-clause-canonical : goal.remove_each-after-requires-clause-canonical
remove_each-after-requires-clause-canonical c = c.loop-round.invariant.lighter.canonical

pub loop-round-preserved : goal.loop-round-preserved
loop-round-preserved c =
    rewritten_through IsCandidate described c.args.savings c.loop-round.after c.remove_each-after.result c.args.graph.now.graph c.loop-round.graph.graph c.remove_each-after.new.graph.graph c.loop-round.invariant c.remove_each-after.ensures

pub returns-clause-rewritten : goal.returns-clause-rewritten
returns-clause-rewritten c = c.loop-round.invariant

pub returns-clause-follows : goal.returns-clause-follows
returns-clause-follows c = c.loop-round.invariant.lighter.follows
