use Rattle.std.proofs.Common.{◌≡◌, ◌⊎◌, true, IsSome}
use Rattle.sq_graph.specs.Blocks.{HasBlock}
use Rattle.sq_graph.specs.Parts.{names_of}
use Rattle.sq_graph.specs.Resolve.{is_on_cycle}
use Rattle.sq_lookup.specs.Resolutions.{AreResolutions}
use Rattle.sq_lookup.specs.Tables.{value_at}
use Rattle.sq_lookup.proofs.Noting.{IsClosedBut, missing}
use Rattle.sq_lookup.proofs.resolutions.note_cycle.Given as goal

abbrev pub invariant-loop-found : goal.invariant-loop-found
invariant-loop-found l = record {
  has : HasBlock l.graph.graph l.at;
  cycle : is_on_cycle l.graph.graph l.at ≡ true;
  are : AreResolutions l.graph.graph l.found.items;
  closed : IsClosedBut l.at l.graph.graph l.found.items;
  known : (l.at ≡ l.block) ⊎ IsSome (value_at l.found.items l.block);
}

abbrev pub decreases-loop-found : goal.decreases-loop-found
decreases-loop-found l = missing l.found.items (names_of l.graph.graph)
