use Rattle.std.proofs.Common.{◌∙◌, ap, sym, take, drop}
use Rattle.sq_graph.specs.Blocks.{block_items}
use Rattle.sq_graph.proofs.SlotReads.{has_slot, reads}
use Rattle.sq_graph.proofs.graph.Graph.items.Goals as goal

pub slot-slot-requires : goal.slot-slot-requires
slot-slot-requires c = has_slot c.self.inside c.args.block c.self.invariant (rw (← c.self.view_is) at c.requires)

pub piece-requires : goal.piece-requires
piece-requires c =
    rw c.deref.ensures.value ((reads c.self.inside c.args.block c.slot-slot.result c.self.invariant c.slot-slot.ensures).within)

pub returns : goal.returns
returns c =
    let shows = reads c.self.inside c.args.block c.slot-slot.result c.self.invariant c.slot-slot.ensures in
    c.piece.ensures ∙ ap (λ is. take c.slot-slot.result.length (drop c.slot-slot.result.start is)) c.deref.ensures.value
    ∙ shows.slice ∙ rw (← c.self.view_is) (sym (ap block_items shows.is))
