use Rattle.std.proofs.Common.{arith}
use Rattle.sq_graph.specs.Fates.{settled}
use Rattle.law_follow.proofs.Following.{graph_follows_itself}
use Rattle.sq_outline.proofs.InlineSearch.{items_few}
use Rattle.sq_outline.proofs.inline.sweep.try_each.Goals as goal

pub settled-requires-clause-small : goal.settled-requires-clause-small
settled-requires-clause-small c =
    rw c.deref.ensures.value (omega (arith, items_few (settled c.in_ok-fates.fates.items c.args.graph.now.graph), c.in_ok-fates.ensures.tried.fewer, c.requires.words))

pub returns-in_err-fates-clause-follows : goal.returns-in_err-fates-clause-follows
returns-in_err-fates-clause-follows c = graph_follows_itself c.args.graph.now.graph

pub returns-then-eq-clause-follows : goal.returns-then-eq-clause-follows
returns-then-eq-clause-follows c = graph_follows_itself c.args.graph.now.graph

pub returns-in_err-trial-clause-follows : goal.returns-in_err-trial-clause-follows
returns-in_err-trial-clause-follows c = graph_follows_itself c.args.graph.now.graph

pub returns-in_err-in_reach-clause-follows : goal.returns-in_err-in_reach-clause-follows
returns-in_err-in_reach-clause-follows c = graph_follows_itself c.args.graph.now.graph

pub returns-then-not-branch-clause-follows : goal.returns-then-not-branch-clause-follows
returns-then-not-branch-clause-follows c = graph_follows_itself c.args.graph.now.graph
