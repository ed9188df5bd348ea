use Rattle.std.proofs.Common.{◌≡◌, ◌++◌, take}
use Rattle.std.specs.List.{flat_map}
use Rattle.sq_graph.specs.Walks.{lower_names}
use Rattle.sq_live.proofs.exits.push_lower_names_of_procedures.Given as goal

abbrev pub invariant-loop-procedure : goal.invariant-loop-procedure
invariant-loop-procedure l = l.targets.items ≡ l.initial.targets.items ++ flat_map (λ procedure. flat_map lower_names procedure.body) (take l.procedure l.g.graph.procedures)
