-- Graphs that differ in the names of their blocks alone are written alike.
use Rattle.std.specs.Prelude.{◌≡◌, ℕ, List, map}
use Rattle.sq_graph.specs.Graph.{Graph}
use Rattle.sq_graph.specs.Alike.{AreAlike}
use Rattle.sq_graph.specs.Places.{IsInReach}
use Rattle.sq_graph.specs.Rules.{IsGraph}
use Rattle.sq_graph.specs.Words.{words_of}

abbrev pub code_word_addresses : Graph → List ℕ
code_word_addresses g = map (λ w. w.at) g.code_words

-- as many words, code words at the same addresses, and in reach where the other is
pub record FitsAs (g h : Graph) : Type 0 where
  pub words : words_of h ≡ words_of g
  pub code_words : code_word_addresses h ≡ code_word_addresses g
  pub reach : IsInReach g → IsInReach h

abbrev pub AlikeGraphsFit : Type 0
AlikeGraphsFit = (g h : Graph) → IsGraph g → AreAlike g h → FitsAs g h
