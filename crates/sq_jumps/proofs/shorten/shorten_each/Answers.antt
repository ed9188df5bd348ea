use Rattle.std.proofs.Common.{ap, ◌∙◌}
use Rattle.sq_graph.specs.Trimmed.{trimmed_each}
use Rattle.sq_jumps.proofs.shorten.shorten_each.Goals as goal
use Rattle.sq_jumps.proofs.ShortenSwept.{jumps_there, trimmed_shortened_each}

pub hasten_each-requires : goal.hasten_each-requires
hasten_each-requires c = jumps_there c.args.graph.now.graph c.args.blocks.now c.requires.jumps

pub returns : goal.returns
returns c =
    c.trim_each.ensures.graph ∙ ap (trimmed_each 1 c.args.blocks.now) c.hasten_each.ensures
    ∙ trimmed_shortened_each c.args.blocks.now c.args.graph.now.graph c.learn.ensures.rules c.requires.distinct c.requires.jumps
