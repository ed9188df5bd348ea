use Rattle.std.proofs.Common.{◌∙◌}
use Rattle.sq_graph.proofs.SlotReads.{has_slot, next_shows}
use Rattle.sq_graph.proofs.graph.Graph.next.Goals as goal

pub next-requires : goal.next-requires
next-requires c = has_slot c.self.inside c.args.block c.self.invariant (rw (← c.self.view_is) at c.requires)

pub returns : goal.returns
returns c = rw (← c.self.view_is) (c.next.ensures ∙ next_shows c.self.inside c.args.block)
