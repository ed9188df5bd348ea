-- Fold of a graph: of each class of the coarsest stable partition one block stays.
use Rattle.std.specs.Prelude.{ℕ, ◌+◌, ◌≤◌, Option}
use Rattle.sq_graph.specs.Alike.{AreAlike}
use Rattle.sq_graph.specs.Canonical.{canonical_of}
use Rattle.sq_graph.specs.Graph.{Graph}
use Rattle.sq_graph.specs.Slotted.{slotted}
use Rattle.sq_graph.specs.Words.{words_of}
use Rattle.sq_fold.specs.Partition.{IsCoarsestPartition}
use Rattle.sq_chain.specs.Least.{least_widened}
use Rattle.sq_chain.specs.Widening.{fresh}
use Rattle.sq_quotient.specs.Folding.{stays_for, folded_by}

-- the name of the new block behind this one, above all names that are there
abbrev pub new_name : Graph → ℕ → ℕ
new_name g n = fresh g + n

-- Of each class the first block in layout order stays, and all names of the others go over to it.
abbrev pub merged : Graph → (ℕ → Option ℕ) → Graph
merged g class = folded_by (stays_for g class) (new_name g) g

-- Then the least set of Branches is widened, and the graph is made canonical. Names don't matter, so blocks are named by
-- their positions before.
abbrev pub folded : Graph → (ℕ → Option ℕ) → Graph
folded g class = canonical_of (least_widened (slotted (merged g class)))

-- The other graph is, but for the names of blocks, this one folded by its coarsest stable partition.
pub record IsFolded (old new : Graph) : Type 0 where
  pub class : ℕ → Option ℕ
  pub coarsest : IsCoarsestPartition old class
  pub alike : AreAlike (folded old class) new

-- The folded graph has no fewer words.
abbrev pub FoldSavesNothing : Graph → Type 0
FoldSavesNothing g = (h : Graph) → IsFolded g h → words_of g ≤ words_of h
