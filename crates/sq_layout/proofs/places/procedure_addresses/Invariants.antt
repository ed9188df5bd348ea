use Rattle.std.proofs.Common.{◌≡◌, ◌+◌, ◌*◌, ◌++◌, drop, sum_by}
use Rattle.sq_graph.specs.Words.{procedure_words}
use Rattle.sq_graph.specs.Places.{procedure_addresses}
use Rattle.sq_layout.proofs.places.procedure_addresses.Given as goal

abbrev pub invariant-loop-procedure : goal.invariant-loop-procedure
invariant-loop-procedure l = record {
  at : l.at + 4 * sum_by procedure_words (drop l.procedure l.g.graph.procedures) ≡ l.start + 4 * sum_by procedure_words l.g.graph.procedures;
  addresses : l.addresses.items ++ procedure_addresses (drop l.procedure l.g.graph.procedures) l.at ≡ procedure_addresses l.g.graph.procedures l.start;
}
