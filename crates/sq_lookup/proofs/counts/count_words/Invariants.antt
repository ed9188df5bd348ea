use Rattle.std.proofs.Common.{◌≡◌, ◌∷◌, ℕ, take}
use Rattle.sq_graph.specs.Uses.{code_word_uses}
use Rattle.sq_lookup.specs.Counts.{count_at, times_named}
use Rattle.sq_lookup.proofs.counts.count_words.Given as goal

abbrev pub invariant-loop-word : goal.invariant-loop-word
invariant-loop-word l = (n : ℕ) → count_at l.counts.items n ≡ times_named (l.graph.graph.entry ∷ code_word_uses (take l.word-index l.graph.graph.code_words)) n
