use Rattle.std.proofs.Common.{◌≢◌, sym, subst}
use Rattle.std.specs.List.{All}
use Rattle.sq_graph.specs.Graph.{Graph}
use Rattle.sq_graph.specs.Uses.{uses}
use Rattle.sq_graph.proofs.OperationRules.{redirected_rules, redirected_unused}
use Rattle.test_graphs.proofs.changes.redirect.Goals as goal

pub redirect-requires : goal.redirect-requires
redirect-requires c =
    record { rules = redirected_rules c.args.graph.now.graph c.args.from c.args.to c.learn.ensures.rules (c.is_block.ensures c.if-not-is_block.false) }

pub returns : goal.returns
returns c =
    λ some.
    subst (λ (g : Graph). All (λ n. n ≢ c.args.from) (uses g)) (sym c.redirect.ensures.graph)
    (redirected_unused c.args.graph.now.graph c.args.from c.args.to (λ same. c.if-from-to.false (sym same)))
