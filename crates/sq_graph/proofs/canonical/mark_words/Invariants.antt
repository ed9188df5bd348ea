use Rattle.std.proofs.Common.{◌≡◌, take}
use Rattle.sq_graph.specs.Uses.{code_word_uses}
use Rattle.sq_graph.specs.CanonicalSlots.{marked}
use Rattle.sq_graph.proofs.canonical.mark_words.Given as goal

abbrev pub invariant-loop-word : goal.invariant-loop-word
invariant-loop-word l = record {
  entries : l.slots.entries ≡ marked (code_word_uses (take l.word-index l.words)) l.fn.slots.entries;
  spare : l.slots.spare ≡ l.fn.slots.spare;
}
