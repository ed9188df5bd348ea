use Rattle.std.specs.List.{All}
use Rattle.sq_graph.specs.Blocks.{HasBlock}
use Rattle.sq_lookup.proofs.resolutions.follow.Given as goal

abbrev pub invariant-loop-hop : goal.invariant-loop-hop
invariant-loop-hop l = record { jumps : All (HasBlock l.graph.graph) l.jumps.items; last : HasBlock l.graph.graph l.last }
