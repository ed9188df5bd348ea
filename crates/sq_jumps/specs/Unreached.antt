-- Row U: every block that isn't reached, and every procedure that no reached block calls.
use Rattle.std.specs.Prelude.{◌≡◌, ◌↔◌, ℕ, ◌+◌, Bool, false, ◌&&◌, ◌||◌, not, List, [], ◌∷◌, sum_by, is_some}
use Rattle.std.specs.List.{filter, flat_map}
use Rattle.sq_graph.specs.Graph.{Block, Graph}
use Rattle.sq_graph.specs.Blocks.{HasBlock, block_of}
use Rattle.sq_graph.specs.Parts.{names_of}
use Rattle.sq_graph.specs.Uses.{item_calls}
use Rattle.sq_graph.specs.Walks.{IsReachedBlock}
use Rattle.sq_graph.specs.Words.{block_words, procedure_words}
use Rattle.law_patch.specs.Restrictions.{procedures_held, restricted}
use Rattle.sq_lookup.specs.Names.{is_listed}

-- a block of the graph that isn't among those that go
abbrev pub stays : Graph → List ℕ → ℕ → Bool
stays g gone n = is_some (block_of g n) && not (is_listed gone n)

-- whether one of these blocks, if it is kept, calls the procedure
abbrev pub is_called_in : (ℕ → Bool) → List Block → ℕ → Bool
is_called_in keep [] q = false
is_called_in keep (b ∷ bs) q = keep b.name && is_listed (flat_map item_calls b.items) q || is_called_in keep bs q

-- whether a block that stays calls the procedure
abbrev pub is_held : Graph → List ℕ → ℕ → Bool
is_held g gone q = is_called_in (stays g gone) g.blocks q

-- these blocks go, and the procedures that no other block calls
abbrev pub without_all : Graph → List ℕ → Graph
without_all g gone = restricted (stays g gone) (is_held g gone) g

-- the words of both
abbrev pub words_gone : Graph → List ℕ → ℕ
words_gone g gone =
    sum_by block_words (filter (λ b. is_listed gone b.name) g.blocks) + sum_by procedure_words (procedures_held (λ q. not (is_held g gone q)) g.procedures)

-- these are the blocks that aren't reached, in layout order
pub record AreUnreached (g : Graph) (gone : List ℕ) : Type 0 where
  pub exact : (n : ℕ) → HasBlock g n → (is_listed gone n ≡ false) ↔ IsReachedBlock g n
  pub in_order : gone ≡ filter (λ n. is_listed gone n) (names_of g)
