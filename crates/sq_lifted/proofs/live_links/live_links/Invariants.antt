use Rattle.sq_graph.specs.Parts.{names_of}
use Rattle.sq_lifted.specs.LiveLinks.{BlocksDie, Marks}
use Rattle.sq_lifted.proofs.live_links.live_links.Given as goal

abbrev pub invariant-loop-name : goal.invariant-loop-name
invariant-loop-name l = Marks (BlocksDie l.g.graph (names_of l.g.graph) l.name-index) l.initial.flags.items l.flags.items
