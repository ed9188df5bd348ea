use Rattle.sq_graph.specs.declared.item.Term.TheVariants.{Fall}
use Rattle.sq_graph.specs.Operations.{with_term}
use Rattle.sq_lookup.proofs.Targets.{has_term}
use Rattle.sq_jumps.proofs.fall.fall.Goals as goal
use Rattle.sq_jumps.proofs.Totals.{term_total, total_by}
use Rattle.sq_jumps.proofs.FallApplied.{fall_rules}

pub set_term-requires-clause-rules : goal.set_term-requires-clause-rules
set_term-requires-clause-rules c = fall_rules c.args.graph.now.graph c.args.block c.requires.to c.learn.ensures.rules c.requires.jump c.requires.next

pub returns-clause-total : goal.returns-clause-total
returns-clause-total c =
    let g = c.args.graph.now.graph in
    total_by c.args.graph.now c.set_term.new.self (with_term g c.args.block Fall) c.args.graph.now.spare c.set_term.ensures.graph c.set_term.ensures.spare
    (term_total g c.args.block Fall c.args.graph.now.spare (has_term g c.args.block _ c.requires.jump))
