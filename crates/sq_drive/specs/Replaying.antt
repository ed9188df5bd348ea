-- What the steps of a replay make of a graph.
use Rattle.std.specs.Prelude.{ℕ, ◌≤◌, List, [], ◌∷◌, length, take}
use Rattle.sq_graph.specs.Graph.{Graph}
use Rattle.sq_graph.specs.Slotted.{IsSlotted}
use Rattle.sq_pass.specs.declared.cut.Cut.{Cut}
use Rattle.sq_pass.specs.declared.cut.Row.TheVariants.{L}
use Rattle.sq_pass.specs.Rewrites.{IsLighter}
use Rattle.sq_cert.specs.declared.step.Step.{Step}
use Rattle.sq_drive.specs.Replay.{IsReplay}

-- it follows the old graph, is canonical, sound and in reach where that was, has no more words, and its blocks are named by
-- their places where those of the old one were
pub record IsLess (old new : Graph) : Type 0 where
  pub saved : ℕ
  pub lighter : IsLighter saved old new
  pub slotted : IsSlotted old → IsSlotted new

-- the first steps, so many of them, lead to the new graph
pub record AreTaken (count : ℕ) (steps : List Step) (old new : Graph) : Type 0 where
  pub within : count ≤ length steps
  pub replay : IsReplay (take count steps) old new
  pub less : IsLess old new

-- the cut of the step L
abbrev pub move_cut : ℕ → ℕ → Cut
move_cut from to = record { row = L; blocks = from ∷ to ∷ []; procedure = 0; other = 0; length = 0; link = 0; saving = 0 }
