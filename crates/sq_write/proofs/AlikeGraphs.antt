-- A graph that differs from another in the names of its blocks alone takes as many words, and is in reach where that is.
use Rattle.std.proofs.Common.{◌∙◌, ap}
use Rattle.sq_graph.proofs.RenamedReach.{alike_words, alike_in_reach}
use Rattle.sq_graph.proofs.RetargetRules.{addresses-other}
use Rattle.sq_write.specs.Alike.{code_word_addresses, AlikeGraphsFit}

pub alike_fit : AlikeGraphsFit
alike_fit g h rules alike = record {
  words = alike_words g h alike;
  code_words = ap code_word_addresses alike.is ∙ addresses-other alike.name (λ b. b.name) g.code_words;
  reach = alike_in_reach g h rules alike;
}
