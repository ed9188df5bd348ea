use Rattle.std.proofs.Common.{arith}
use Rattle.sq_graph.proofs.LinkReads.{length-links}
use Rattle.test_graphs.proofs.chains.block_count.Goals as goal

pub returns : goal.returns
returns c = omega (arith, c.len.ensures.value, length-links c.links.result.now.entries c.args.graph.now.graph.blocks c.links.ensures.blocks)
