use Rattle.law_follow.proofs.Following.{graph_follows_through}
use Rattle.sq_pass.proofs.Rewriting.{rewritten_itself, rewritten_through}
use Rattle.sq_drive.specs.Rows.{IsCandidate, described}
use Rattle.sq_drive.proofs.reach.go_on.Goals as goal

pub loop-sweep-init : goal.loop-sweep-init
loop-sweep-init c = rewritten_itself IsCandidate described c.args.savings c.args.graph.now.graph c.requires.canonical

pub returns-then-not-goes_on-clause-rewritten : goal.returns-then-not-goes_on-clause-rewritten
returns-then-not-goes_on-clause-rewritten c =
    rewritten_through IsCandidate described c.args.savings c.loop-sweep.after c.in_ok-savings.field-0.savings c.args.graph.now.graph c.loop-sweep.graph.graph c.prepare.new.graph.graph
    c.loop-sweep.invariant c.in_ok-savings.ensures.rewritten

pub returns-then-not-goes_on-clause-follows : goal.returns-then-not-goes_on-clause-follows
returns-then-not-goes_on-clause-follows c = (returns-then-not-goes_on-clause-rewritten c).lighter.follows

pub loop-sweep-preserved : goal.loop-sweep-preserved
loop-sweep-preserved c =
    let old = c.args.graph.now.graph in
    let mid = c.prepare.new.graph.graph in
    let between = rewritten_through IsCandidate described c.args.savings c.loop-sweep.after c.in_ok-savings.field-0.savings old c.loop-sweep.graph.graph mid c.loop-sweep.invariant c.in_ok-savings.ensures.rewritten in
    rewritten_through IsCandidate described c.args.savings c.in_ok-savings.field-0.savings c.in_ok-after.after old mid c.sweep_on.new.graph.graph between c.in_ok-after.ensures.rewritten

pub returns-in_err-savings-clause-follows : goal.returns-in_err-savings-clause-follows
returns-in_err-savings-clause-follows c =
    graph_follows_through c.args.graph.now.graph c.loop-sweep.graph.graph c.prepare.new.graph.graph c.loop-sweep.invariant.lighter.follows c.prepare.ensures.follows

pub returns-in_err-after-clause-follows : goal.returns-in_err-after-clause-follows
returns-in_err-after-clause-follows c =
    let old = c.args.graph.now.graph in
    let mid = c.prepare.new.graph.graph in
    graph_follows_through old mid c.sweep_on.new.graph.graph
    (graph_follows_through old c.loop-sweep.graph.graph mid c.loop-sweep.invariant.lighter.follows c.prepare.ensures.follows) c.sweep_on.ensures.follows

pub returns-clause-rewritten : goal.returns-clause-rewritten
returns-clause-rewritten c = c.loop-sweep.invariant

pub returns-clause-follows : goal.returns-clause-follows
returns-clause-follows c = c.loop-sweep.invariant.lighter.follows
