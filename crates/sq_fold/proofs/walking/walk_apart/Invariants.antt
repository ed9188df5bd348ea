use Rattle.std.proofs.Common.{ℕ, List, Option}
use Rattle.std.specs.HashMap.{get}
use Rattle.sq_graph.specs.Rules.{IsGraph}
use Rattle.sq_graph.specs.Graph.{Graph}
use Rattle.sq_finger.specs.Classes.{is_same_kind}
use Rattle.sq_fold.specs.Nodes.{At}
use Rattle.sq_fold.specs.Walks.{IsSurveyed}
use Rattle.sq_fold.proofs.Levels.{Walking}
use Rattle.sq_fold.proofs.walking.walk_apart.Given as goal

-- the walk so far, over every survey that these are
abbrev pub Walked : (g : Graph) (find : At → Option ℕ) (rounds : List (List (Option ℕ))) → ℕ → ℕ → ℕ → ℕ → ℕ → List ℕ → Type 0
Walked g find rounds x y m n level walk = (rules : IsGraph g) (s : IsSurveyed g find rounds) → Walking g rules find rounds s x y m n level walk

abbrev pub invariant-loop-level : goal.invariant-loop-level
invariant-loop-level l = Walked l.graph.graph (get is_same_kind l.index) l.rounds l.x l.y l.pair.0 l.pair.1 l.level l.walk.items

abbrev pub decreases-loop-level : goal.decreases-loop-level
decreases-loop-level l = l.level
