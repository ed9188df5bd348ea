-- What the code makes of a graph by the row of a cut: what the row describes, but for the names of new blocks. No public clause cites
-- this module.
use Rattle.sq_graph.specs.Graph.{Graph}
use Rattle.sq_pass.specs.declared.cut.Cut.{Cut}
use Rattle.sq_pass.specs.Applied.{IsApplied}
use Rattle.sq_drive.specs.Replay.{IsGiven}
use Rattle.sq_drive.specs.Rows.{described}

-- the graph that the row of a candidate makes, before it is made canonical
pub record IsMade (told : Cut) (old made : Graph) : Type 0 where
  pub given : IsGiven old told
  pub applied : IsApplied given.cut.saving (described old given.cut) old made
