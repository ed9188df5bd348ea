use Rattle.std.proofs.Common.{[]}
use Rattle.std.proofs.lemmas.List.Elements.{All-nil, All-cons}
use Rattle.sq_graph.specs.declared.item.Term.TheVariants.{Jump}
use Rattle.sq_graph.specs.Blocks.{HasBlock}
use Rattle.sq_graph.proofs.OperationRules.{with_term_rules}
use Rattle.test_graphs.proofs.changes.set_jump.Goals as goal

pub set_term-requires-clause-rules : goal.set_term-requires-clause-rules
set_term-requires-clause-rules c =
    let g = c.args.graph.now.graph in
    with_term_rules g c.args.block (Jump c.args.to) c.learn.ensures.rules (c.is_block.ensures c.if-not-is_block.false) tt
    (All-cons (HasBlock g) c.args.to [] (c.is_block-2.ensures c.if-not-is_block-2.false) (All-nil (HasBlock g)))
    (λ on. absurd (cc))
