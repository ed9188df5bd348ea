use Rattle.std.proofs.Common.{arith}
use Rattle.sq_graph.specs.Fates.{settled}
use Rattle.law_follow.proofs.Following.{graph_follows_itself}
use Rattle.sq_outline.proofs.InlineSearch.{items_few}
use Rattle.sq_outline.proofs.recall.sweep_recalls.Goals as goal

pub settled-requires-clause-small : goal.settled-requires-clause-small
settled-requires-clause-small c =
    rw c.deref.ensures.value (omega (arith, items_few (settled c.in_ok-fates.fates.items c.args.graph.now.graph), c.in_ok-fates.ensures.rewritten.lighter.words, c.requires.words))

pub returns-in_err-fates-clause-follows : goal.returns-in_err-fates-clause-follows
returns-in_err-fates-clause-follows c = graph_follows_itself c.args.graph.now.graph
