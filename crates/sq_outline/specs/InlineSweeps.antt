-- A sweep of row O4, which looks only in the end whether each Branch reaches.
use Rattle.std.specs.Prelude.{◌≡◌, ◌≤◌, ◌+◌}
use Rattle.sq_num.specs.declared.packed.Savings.{Savings}
use Rattle.sq_num.specs.Saved.{words_saved}
use Rattle.sq_graph.specs.Graph.{Graph}
use Rattle.sq_graph.specs.Leaders.{IsCanonical}
use Rattle.sq_graph.specs.Places.{IsInReach}
use Rattle.sq_graph.specs.Words.{words_of}
use Rattle.sq_pass.specs.Rewrites.{IsRewritten}
use Rattle.sq_outline.specs.Candidates.{IsCandidate, described}

-- The graph became another, by rewrites of the pass if each Branch reaches in the end. Where it does then, it did before.
pub record IsTried (before after : Savings) (old new : Graph) : Type 0 where
  pub canonical : IsCanonical new
  pub fewer : words_of new ≤ words_of old
  pub words : words_of new + words_saved after ≡ words_of old + words_saved before
  pub near : IsInReach new → IsInReach old
  pub rewritten : IsInReach new → IsRewritten IsCandidate described before after old new
