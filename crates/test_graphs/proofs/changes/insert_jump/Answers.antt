use Rattle.std.proofs.Common.{[]}
use Rattle.std.proofs.lemmas.List.Elements.{All-nil, All-cons}
use Rattle.sq_graph.specs.declared.item.Term.TheVariants.{Jump}
use Rattle.sq_graph.specs.Blocks.{HasBlock}
use Rattle.sq_graph.proofs.OperationRules.{inserted_after_rules}
use Rattle.test_graphs.proofs.changes.insert_jump.Goals as goal

pub insert_after-requires-clause-rules : goal.insert_after-requires-clause-rules
insert_after-requires-clause-rules c =
    let g = c.args.graph.now.graph in
    λ name fresh.
    inserted_after_rules g name c.args.block (Jump c.args.to) c.learn.ensures.rules fresh (c.is_block.ensures c.if-not-is_block.false) tt
    (All-cons (HasBlock g) c.args.to [] (c.is_block-2.ensures c.if-not-is_block-2.false) (All-nil (HasBlock g)))
    (λ on. absurd (cc))
