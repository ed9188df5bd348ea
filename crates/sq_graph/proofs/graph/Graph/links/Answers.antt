use Rattle.std.proofs.Common.{◌∙◌, ap}
use Rattle.sq_graph.specs.Slots.{slots_of}
use Rattle.sq_graph.proofs.Held.{links_shown}
use Rattle.sq_graph.proofs.graph.Graph.links.Goals as goal

pub returns-clause-blocks : goal.returns-clause-blocks
returns-clause-blocks c =
    links_shown c.self.inside c.self.invariant
    ∙ ap (λ v. slots_of v.graph.blocks) c.self.view_is
