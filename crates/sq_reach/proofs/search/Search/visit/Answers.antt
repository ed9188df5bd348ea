use Rattle.std.proofs.lemmas.Result.{on_ok_weaker}
use Rattle.sq_reach.proofs.Blocks.{successors_split, calls_exist}
use Rattle.sq_reach.proofs.Reaching.{reaches_then}
use Rattle.sq_reach.proofs.search.Search.visit.Goals as goal

pub visit_items-requires-clause-calls : goal.visit_items-requires-clause-calls
visit_items-requires-clause-calls c =
    rw c.items.ensures (calls_exist c.args.g.now.graph c.args.block c.requires.rules)

pub returns-clause-ok : goal.returns-clause-ok
returns-clause-ok c =
    let items = rw c.items.ensures at c.visit_items.ensures.ok in
    rw (successors_split c.args.g.now.graph c.args.block c.requires.block) (on_ok_weaker c.visit_items.result (reaches_then c.in_ok-visit_term.ensures.ok) items)
