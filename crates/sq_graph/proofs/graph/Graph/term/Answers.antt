use Rattle.std.proofs.Common.{Some, ◌∙◌, ap, sym}
use Rattle.sq_graph.specs.Blocks.{block_term}
use Rattle.sq_graph.proofs.SlotReads.{has_slot, reads}
use Rattle.sq_graph.proofs.graph.Graph.term.Goals as goal

pub slot-requires : goal.slot-requires
slot-requires c = has_slot c.self.inside c.args.block c.self.invariant (rw (← c.self.view_is) at c.requires)

pub returns : goal.returns
returns c =
    let shows = reads c.self.inside c.args.block c.slot.result c.self.invariant c.slot.ensures in
    rw (← c.self.view_is) (ap block_term shows.is ∙ ap Some (sym shows.term_is))
