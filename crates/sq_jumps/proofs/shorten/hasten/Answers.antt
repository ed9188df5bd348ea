use Rattle.std.proofs.Common.{sym, subst}
use Rattle.sq_graph.specs.Operations.{with_term}
use Rattle.sq_graph.specs.Rules.{IsGraph}
use Rattle.sq_jumps.proofs.shorten.hasten.Goals as goal
use Rattle.sq_jumps.proofs.ShortenApplied.{hastened_rules}

pub set_term-requires-clause-rules : goal.set_term-requires-clause-rules
set_term-requires-clause-rules c =
    let g = c.args.graph.now.graph in
    subst (λ t. IsGraph (with_term g c.args.block t)) (sym c.short_jump.ensures)
    (hastened_rules g c.args.block c.in-PartJump.link c.in-PartJump.part c.in-PartJump.to c.learn.ensures.rules c.in-PartJump.ensures)
