use Rattle.law_follow.proofs.Following.{graph_follows_through}
use Rattle.sq_outline.proofs.WindowsSweeping.{rewritten_last}
use Rattle.sq_outline.proofs.windows.sweep.sweep_both.Goals as goal

pub returns-then-is_empty-clause-rewritten : goal.returns-then-is_empty-clause-rewritten
returns-then-is_empty-clause-rewritten c =
    rewritten_last c.args.savings c.in_ok-called.called c.args.graph.now.graph c.sweep_calls.new.graph.graph _ c.sweep_made.result c.in_ok-called.ensures.rewritten c.sweep_made.ensures.rewritten

pub returns-then-is_empty-clause-follows : goal.returns-then-is_empty-clause-follows
returns-then-is_empty-clause-follows c = graph_follows_through c.args.graph.now.graph c.sweep_calls.new.graph.graph _ c.in_ok-called.ensures.follows c.sweep_made.ensures.follows

pub returns-clause-rewritten : goal.returns-clause-rewritten
returns-clause-rewritten c =
    rewritten_last c.args.savings c.in_ok-made.made c.args.graph.now.graph c.make_each.new.graph.graph _ c.sweep_made-2.result c.in_ok-made.ensures.rewritten c.sweep_made-2.ensures.rewritten

pub returns-clause-follows : goal.returns-clause-follows
returns-clause-follows c = graph_follows_through c.args.graph.now.graph c.make_each.new.graph.graph _ c.in_ok-made.ensures.follows c.sweep_made-2.ensures.follows

pub make_each-requires-clause-found : goal.make_each-requires-clause-found
make_each-requires-clause-found c = c.requires.found c.args.graph.now.graph
