use Rattle.std.proofs.Common.{take}
use Rattle.sq_graph.specs.Uses.{code_word_uses}
use Rattle.sq_lookup.specs.Names.{Adds}
use Rattle.sq_lookup.proofs.uses.use_words.Given as goal

abbrev pub invariant-loop-word : goal.invariant-loop-word
invariant-loop-word l = Adds (code_word_uses (take l.word-index l.words)) l.initial.used l.used
