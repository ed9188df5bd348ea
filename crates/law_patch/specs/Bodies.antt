-- A block whose whole body matches another's, and goes.
use Rattle.std.specs.Prelude.{◌≡◌, ◌≢◌, ℕ, [], length}
use Rattle.sq_graph.specs.Graph.{Graph}
use Rattle.sq_graph.specs.Blocks.{items_of}
use Rattle.sq_graph.specs.Rules.{IsGraph}
use Rattle.sq_graph.specs.Resolve.{resolved_term_of}
use Rattle.sq_graph.specs.Lines.{place_lines}
use Rattle.sq_graph.specs.Walks.{IsLive}
use Rattle.sq_graph.specs.Matches.{Match, PairsDie}
use Rattle.sq_graph.specs.Soundness.{IsSound}
use Rattle.law_follow.specs.Follows.{Follows}
use Rattle.law_patch.specs.Merges.{merged}

-- The items of one block, at least one, match those of another. Behind them both registers of each pair of different ones
-- are dead, and the two resolved terms are equal.
pub record HaveBodies (g : Graph) (dropped kept : ℕ) : Type 0 where
  pub other : kept ≢ dropped
  pub match : Match g.procedures (items_of g dropped) (items_of g kept)
  pub some : items_of g kept ≢ []
  pub pairs_die : PairsDie g.procedures (items_of g dropped) (items_of g kept) (λ r. IsLive g r (place_lines g dropped (length (items_of g dropped))))
  pub terms : resolved_term_of g dropped ≡ resolved_term_of g kept

-- A graph with a Jump to the other block in place of all of the one follows it, and is sound where it is.
abbrev pub BodyFollows : Type 0
BodyFollows = (g : Graph) (dropped kept : ℕ) → IsGraph g → HaveBodies g dropped kept → Follows g (merged g dropped 0 kept)

abbrev pub BodyIsSound : Type 0
BodyIsSound = (g : Graph) (dropped kept : ℕ) → IsGraph g → HaveBodies g dropped kept → IsSound g → IsSound (merged g dropped 0 kept)
