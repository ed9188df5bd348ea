-- What folding does.
use Rattle.std.specs.Prelude.{◌≡◌, ℕ, Option, false}
use Rattle.std.specs.List.{All}
use Rattle.sq_graph.specs.Graph.{Graph}
use Rattle.sq_graph.specs.Leaders.{is_bare}
use Rattle.sq_graph.specs.Rules.{IsGraph}
use Rattle.sq_graph.specs.Soundness.{IsSound}
use Rattle.law_follow.specs.Follows.{Follows}
use Rattle.sq_fold.specs.Partition.{IsStablePartition}
use Rattle.sq_quotient.specs.Folding.{folded_by, stays_for, Merges, AreNewNames}

-- A graph whose blocks are folded follows it, where none is empty with Fall.
abbrev pub FoldFollows : Type 0
FoldFollows = (g : Graph) (f new : ℕ → ℕ) → IsGraph g → All (λ b. is_bare b ≡ false) g.blocks → Merges g f → AreNewNames g new → Follows g (folded_by f new g)

-- The first blocks of the classes of a stable partition stand for all.
abbrev pub FirstsMerge : Type 0
FirstsMerge = (g : Graph) (class : ℕ → Option ℕ) → IsGraph g → IsStablePartition g class → Merges g (stays_for g class)

-- It is sound where the graph is.
abbrev pub FoldIsSound : Type 0
FoldIsSound = (g : Graph) (f new : ℕ → ℕ) → IsGraph g → All (λ b. is_bare b ≡ false) g.blocks → Merges g f → AreNewNames g new → IsSound g → IsSound (folded_by f new g)
