use Rattle.std.proofs.Common.{◌≡◌, ◌++◌, take, map}
use Rattle.sq_graph.specs.Walks.{word_name}
use Rattle.sq_live.proofs.exits.push_words.Given as goal

abbrev pub invariant-loop-word : goal.invariant-loop-word
invariant-loop-word l = l.targets.items ≡ l.initial.targets.items ++ map word_name (take l.word-index l.g.graph.code_words)
