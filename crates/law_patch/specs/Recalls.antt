-- Procedures that are called in place of others, and procedures that go.
use Rattle.std.specs.Prelude.{◌≡◌, ℕ}
use Rattle.std.specs.List.{Contains}
use Rattle.sq_graph.specs.Graph.{Graph}
use Rattle.sq_graph.specs.Blocks.{HasProcedure, body_of, link_of}
use Rattle.sq_graph.specs.Uses.{calls}
use Rattle.sq_graph.specs.Rules.{IsGraph}
use Rattle.sq_graph.specs.Operations.{redirected_calls, without_procedure}
use Rattle.sq_graph.specs.Soundness.{IsSound}
use Rattle.law_follow.specs.Follows.{Follows}

-- two procedures with equal bodies and equal links
pub record AreEqual (g : Graph) (from to : ℕ) : Type 0 where
  pub there : HasProcedure g to
  pub bodies : body_of g from ≡ body_of g to
  pub links : link_of g from ≡ link_of g to

-- A graph in which one is called in place of the other follows it, and is sound where it is.
abbrev pub RecallFollows : Type 0
RecallFollows = (g : Graph) (from to : ℕ) → IsGraph g → AreEqual g from to → Follows g (redirected_calls g from to)

abbrev pub RecallIsSound : Type 0
RecallIsSound = (g : Graph) (from to : ℕ) → IsGraph g → AreEqual g from to → IsSound g → IsSound (redirected_calls g from to)

-- A graph without a procedure that nothing calls follows it, and is sound where it is.
abbrev pub UncalledGoesFollows : Type 0
UncalledGoesFollows = (g : Graph) (procedure : ℕ) → IsGraph g → ¬ Contains (calls g) procedure → Follows g (without_procedure g procedure)

abbrev pub UncalledGoesIsSound : Type 0
UncalledGoesIsSound =
    (g : Graph) (procedure : ℕ) → IsGraph g → ¬ Contains (calls g) procedure → IsSound g → IsSound (without_procedure g procedure)
