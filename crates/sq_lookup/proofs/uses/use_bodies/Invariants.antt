use Rattle.std.proofs.Common.{take}
use Rattle.std.specs.List.{flat_map}
use Rattle.sq_graph.specs.Uses.{items_uses}
use Rattle.sq_lookup.specs.Names.{Adds}
use Rattle.sq_lookup.proofs.uses.use_bodies.Given as goal

abbrev pub invariant-loop-procedure : goal.invariant-loop-procedure
invariant-loop-procedure l = Adds (flat_map (λ p. items_uses p.body) (take l.procedure l.graph.graph.procedures)) l.initial.used l.used
