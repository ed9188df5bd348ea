-- Files that packing doesn't change.
use Rattle.std.specs.Prelude.{◌≡◌, ℕ, List}
use Rattle.sq_graph.specs.Graph.{Graph}
use Rattle.sq_graph.specs.Slotted.{IsSlotted}
use Rattle.sq_chain.specs.Moves.{IsStill}
use Rattle.sq_drive.specs.Rows.{IsLeftoverFree}
use Rattle.sq_write.specs.Written.{written}
use Rattle.sq_lifted.specs.LiftedFiles.{IsLiftedFile}

-- a file that is settled: nothing of it is refused, it is the file that is written of its own data and its own graph, with
-- the blocks named by their positions, and no row has a candidate in this graph. No move of a chain in it
-- saves a word.
pub record IsSettledFile (bytes : List ℕ) : Type 0 where
  pub graph : Graph
  pub lifted : IsLiftedFile bytes graph
  pub slotted : IsSlotted graph
  pub is : bytes ≡ written bytes graph
  pub left : IsLeftoverFree graph
  pub still : IsStill graph
