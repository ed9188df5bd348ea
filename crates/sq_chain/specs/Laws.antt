-- What widening makes of every graph.
use Rattle.std.specs.Prelude.{◌≡◌, ℕ, ◌+◌, Bool}
use Rattle.sq_graph.specs.Alike.{AreAlike}
use Rattle.sq_graph.specs.Graph.{Graph}
use Rattle.sq_graph.specs.Places.{IsInReach}
use Rattle.sq_graph.specs.Rules.{IsGraph}
use Rattle.sq_graph.specs.Words.{words_of}
use Rattle.sq_chain.specs.Widening.{IsValid, IsLeastWidening, widened, size_of, IsWidened}
use Rattle.sq_chain.specs.Least.{least}

pub record WideningLaws : Type 0 where
  -- the set that is found in rounds is the least valid one
  pub least_is_least : (g : Graph) → IsGraph g → IsLeastWidening g (least g)
  -- where a valid set is widened, the graph is in reach, whatever it was
  pub reach : (g h : Graph) (S : ℕ → Bool) → IsGraph g → IsValid g S → IsWidened g h S → IsInReach h
  -- and has one word more for each Branch of the set
  pub words : (g h : Graph) (S : ℕ → Bool) → IsGraph g → IsValid g S → IsWidened g h S → words_of h ≡ words_of g + size_of g S
  -- the names of the new blocks don't matter
  pub alike : (g h : Graph) (S : ℕ → Bool) → IsGraph g → IsWidened g h S → AreAlike (widened g S) h
