use Rattle.std.proofs.Common.{take, ◌<◌}
use Rattle.std.specs.List.{All}
use Rattle.sq_graph.specs.declared.parts.CodeRef.{CodeRef}
use Rattle.test_graphs.proofs.rules.words_are_named.Given as goal

abbrev pub invariant-loop-word : goal.invariant-loop-word
invariant-loop-word l = All (λ (word : CodeRef). word.block < l.blocks) (take l.word-index l.words)
