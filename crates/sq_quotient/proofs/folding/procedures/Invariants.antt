use Rattle.std.proofs.Common.{◌≡◌, ◌++◌, drop, map}
use Rattle.sq_graph.specs.Blocks.{items_of_bodies}
use Rattle.sq_graph.specs.Renames.{retargeted_procedure}
use Rattle.sq_quotient.specs.Staying.{place_in, procedure_part}
use Rattle.sq_quotient.proofs.folding.procedures.Given as goal

abbrev pub invariant-loop-procedure : goal.invariant-loop-procedure
invariant-loop-procedure l = record {
  parts : l.parts.items ++ map procedure_part (drop l.procedure l.graph.graph.procedures) ≡ map procedure_part l.graph.graph.procedures;
  items : l.items.items ++ items_of_bodies (map (retargeted_procedure (place_in l.folding)) (drop l.procedure l.graph.graph.procedures)) ≡ l.initial.items.items ++ items_of_bodies (map (retargeted_procedure (place_in l.folding)) l.graph.graph.procedures);
}
