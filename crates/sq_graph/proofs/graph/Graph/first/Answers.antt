use Rattle.std.proofs.Common.{Some, ◌≡◌, ◌∙◌}
use Rattle.sq_arena.specs.Entries.{first_key}
use Rattle.sq_graph.specs.Layout.{graph_of}
use Rattle.sq_graph.proofs.SlotReads.{first_shows}
use Rattle.sq_graph.proofs.Sizes.{has_first}
use Rattle.sq_graph.proofs.graph.Graph.first.Goals as goal

pub unreachable-requires : goal.unreachable-requires
unreachable-requires c =
    let first = has_first (graph_of c.self.inside) c.self.invariant.rules in
    let some : first_key c.self.inside.slots.entries ≡ Some first.0 = first_shows c.self.inside ∙ first.1 in
    absurd (cc)
