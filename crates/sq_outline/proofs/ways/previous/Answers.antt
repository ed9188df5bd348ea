use Rattle.std.proofs.Common.{◌∙◌}
use Rattle.sq_graph.proofs.LinkReads.{value_of-links}
use Rattle.sq_outline.proofs.ways.previous.Goals as goal

pub previous-requires : goal.previous-requires
previous-requires c =
    value_of-links c.links.result.now.entries c.args.graph.now.graph.blocks c.args.block c.links.ensures.blocks ∙ c.requires
