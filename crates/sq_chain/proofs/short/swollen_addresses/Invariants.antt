use Rattle.std.proofs.Common.{drop}
use Rattle.sq_lookup.specs.Names.{is_listed}
use Rattle.sq_lookup.specs.Tables.{number_at}
use Rattle.sq_chain.specs.Widening.{swollen}
use Rattle.sq_chain.proofs.Placed.{IsPlacedBy}
use Rattle.sq_chain.proofs.short.swollen_addresses.Given as goal

abbrev pub invariant-loop-name : goal.invariant-loop-name
invariant-loop-name l = record {
  placed : IsPlacedBy (swollen (is_listed l.wide)) l.graph.graph.blocks (number_at l.addresses) (drop l.name-index l.graph.graph.blocks) l.at;
}
