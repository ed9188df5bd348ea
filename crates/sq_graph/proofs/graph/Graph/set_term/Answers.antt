use Rattle.std.proofs.Common.{◌∙◌, ap}
use Rattle.sq_graph.specs.Operations.{with_term}
use Rattle.sq_graph.proofs.SlotReads.{has_slot}
use Rattle.sq_graph.proofs.BlockWrites.{set_term_shows}
use Rattle.sq_graph.proofs.graph.Graph.set_term.Goals as goal

pub slot-slot-requires : goal.slot-slot-requires
slot-slot-requires c = has_slot c.self.inside c.args.block c.self.invariant (rw (← c.self.view_is) at c.requires.block)

pub invariant_of-self : goal.invariant_of-self
invariant_of-self c =
    (set_term_shows c.self.inside c.args.block c.slot-slot.result c.args.term c.set.new.slots c.self.invariant c.slot-slot.ensures c.set.ensures.entries c.set.ensures.spare (rw (← c.self.view_is) at c.requires.rules)).sound

pub returns-clause-graph : goal.returns-clause-graph
returns-clause-graph c =
    (set_term_shows c.self.inside c.args.block c.slot-slot.result c.args.term c.set.new.slots c.self.invariant c.slot-slot.ensures c.set.ensures.entries c.set.ensures.spare (rw (← c.self.view_is) at c.requires.rules)).is
    ∙ ap (λ v. with_term v.graph c.args.block c.args.term) c.self.view_is
