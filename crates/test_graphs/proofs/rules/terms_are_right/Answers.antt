use Rattle.sq_graph.specs.declared.parts.BlockPart.{BlockPart}
use Rattle.test_graphs.specs.Standing.{TermIsRight}
use Rattle.test_graphs.proofs.Looked.{one_more, all_looked_at}
use Rattle.test_graphs.proofs.rules.terms_are_right.Goals as goal

pub loop-part-preserved : goal.loop-part-preserved
loop-part-preserved c =
    one_more (λ (part : BlockPart). TermIsRight c.args.blocks part.term) c.args.parts.now c.loop-part.part-index c.part-item.result c.loop-part-test.true c.part-item.is (c.term_is_right.ensures c.if-not-term_is_right.false) c.loop-part.invariant

pub returns : goal.returns
returns c = λ _. all_looked_at (λ (part : BlockPart). TermIsRight c.args.blocks part.term) c.args.parts.now c.loop-part.part-index c.loop-part-test.false c.loop-part.invariant
