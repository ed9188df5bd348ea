use Rattle.std.proofs.Common.{take}
use Rattle.std.specs.List.{flat_map}
use Rattle.sq_graph.specs.Uses.{items_uses}
use Rattle.sq_lookup.specs.Names.{Adds}
use Rattle.sq_lookup.proofs.uses.use_blocks.Given as goal

abbrev pub invariant-loop-name : goal.invariant-loop-name
invariant-loop-name l = Adds (flat_map (λ b. items_uses b.items) (take l.name-index l.graph.graph.blocks)) l.initial.used l.used
