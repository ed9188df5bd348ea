use Rattle.std.proofs.Common.{nat_eq, drop}
use Rattle.std.specs.HashMap.{get}
use Rattle.sq_quotient.specs.Folded.{new_name}
use Rattle.sq_quotient.specs.Staying.{stays_in}
use Rattle.sq_quotient.proofs.Left.{ArePlaced}
use Rattle.sq_quotient.proofs.folding.positions.Given as goal

abbrev pub invariant-loop-name : goal.invariant-loop-name
invariant-loop-name l = record {
  placed : ArePlaced (stays_in l.staying) (new_name l.graph.graph) l.graph.graph (get nat_eq l.positions) (drop l.name-index l.graph.graph.blocks) l.position;
}
