use Rattle.std.proofs.Common.{drop}
use Rattle.sq_lookup.specs.Tables.{number_at}
use Rattle.sq_layout.proofs.Placed.{IsPlaced}
use Rattle.sq_lookup.proofs.addresses.block_addresses.Given as goal

abbrev pub invariant-loop-name : goal.invariant-loop-name
invariant-loop-name l = record {
  placed : IsPlaced l.graph.graph.blocks 0 (number_at l.addresses) (drop l.name-index l.graph.graph.blocks) l.at;
}
