-- Equal ends of two blocks that become one.
use Rattle.std.specs.Prelude.{◌≡◌, ◌≢◌, ℕ, [], drop, length}
use Rattle.sq_graph.specs.declared.item.Term.TheVariants.{Jump}
use Rattle.sq_graph.specs.Graph.{Graph}
use Rattle.sq_graph.specs.Blocks.{items_of}
use Rattle.sq_graph.specs.Rules.{IsGraph}
use Rattle.sq_graph.specs.Operations.{IsNew, split_at, replaced, with_term}
use Rattle.sq_graph.specs.Resolve.{resolved_term_of}
use Rattle.sq_graph.specs.Soundness.{IsSound}
use Rattle.law_follow.specs.Follows.{Follows}

-- The items of one block from `at` on are all the items of another, at least one, and the two resolved terms are equal.
pub record IsMergeable (g : Graph) (dropped at kept : ℕ) : Type 0 where
  pub other : kept ≢ dropped
  pub items : drop at (items_of g dropped) ≡ items_of g kept
  pub some : items_of g kept ≢ []
  pub terms : resolved_term_of g dropped ≡ resolved_term_of g kept

-- They go, and a Jump to the other block stands in their place.
abbrev pub merged : Graph → ℕ → ℕ → ℕ → Graph
merged g dropped at kept = with_term (replaced g dropped at (length (items_of g kept)) []) dropped (Jump kept)

-- A graph with two ends of blocks merged follows it, and is sound where it is.
abbrev pub MergeFollows : Type 0
MergeFollows = (g : Graph) (dropped at kept : ℕ) → IsGraph g → IsMergeable g dropped at kept → Follows g (merged g dropped at kept)

abbrev pub MergeIsSound : Type 0
MergeIsSound = (g : Graph) (dropped at kept : ℕ) → IsGraph g → IsMergeable g dropped at kept → IsSound g → IsSound (merged g dropped at kept)

-- The items of two blocks from a place on are equal, at least one, and the two resolved terms are equal.
pub record HaveTail (g : Graph) (dropped at kept from : ℕ) : Type 0 where
  pub other : kept ≢ dropped
  pub items : drop at (items_of g dropped) ≡ drop from (items_of g kept)
  pub some : drop from (items_of g kept) ≢ []
  pub ends : resolved_term_of g dropped ≡ resolved_term_of g kept

-- Those of the one become a block of their own, and a Jump to it stands in place of those of the other.
abbrev pub tailed : Graph → ℕ → ℕ → ℕ → ℕ → ℕ → Graph
tailed g new dropped at kept from = merged (split_at g new kept from) dropped at new

-- A graph with the tails of two blocks merged follows it, and is sound where it is.
abbrev pub TailFollows : Type 0
TailFollows =
    (g : Graph) (new dropped at kept from : ℕ) → IsGraph g → IsNew g new → HaveTail g dropped at kept from → Follows g (tailed g new dropped at kept from)

abbrev pub TailIsSound : Type 0
TailIsSound =
    (g : Graph) (new dropped at kept from : ℕ) → IsGraph g → IsNew g new → HaveTail g dropped at kept from → IsSound g → IsSound (tailed g new dropped at kept from)
