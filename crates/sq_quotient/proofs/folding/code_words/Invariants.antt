use Rattle.std.proofs.Common.{◌≡◌, ◌++◌, drop}
use Rattle.sq_graph.specs.Renames.{retargeted_words}
use Rattle.sq_quotient.specs.Staying.{place_in}
use Rattle.sq_quotient.proofs.folding.code_words.Given as goal

abbrev pub invariant-loop-word : goal.invariant-loop-word
invariant-loop-word l = l.words.items ++ retargeted_words (place_in l.folding) (drop l.word-index l.graph.graph.code_words) ≡ retargeted_words (place_in l.folding) l.graph.graph.code_words
