use Rattle.std.proofs.Common.{◌<◌}
use Rattle.std.proofs.lemmas.List.Elements.{All-more}
use Rattle.sq_graph.specs.declared.parts.CodeRef.{CodeRef}
use Rattle.test_graphs.proofs.Looked.{all_looked_at}
use Rattle.test_graphs.proofs.rules.words_are_named.Goals as goal

pub loop-word-preserved : goal.loop-word-preserved
loop-word-preserved c =
    All-more (λ (word : CodeRef). word.block < c.args.blocks) c.args.words.now c.loop-word.word-index _ c.loop-word-test.true c.loop-word.invariant c.if-word-blocks.false

pub returns : goal.returns
returns c = λ _. all_looked_at (λ (word : CodeRef). word.block < c.args.blocks) c.args.words.now c.loop-word.word-index c.loop-word-test.false c.loop-word.invariant
