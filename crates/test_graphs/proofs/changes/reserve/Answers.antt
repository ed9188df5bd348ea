use Rattle.std.proofs.Common.{arith}
use Rattle.sq_graph.proofs.LinkReads.{length-links}
use Rattle.test_graphs.proofs.Counts.{few_items}
use Rattle.test_graphs.proofs.changes.reserve.Goals as goal

pub reserve-requires : goal.reserve-requires
reserve-requires c =
    let few = few_items c.args.graph.now.graph in
    record {
      blocks = omega (arith, c.if-room-ge-MOST.false, c.if-len-ge-MOST.false, c.len.ensures.value, length-links c.links.result.now.entries c.args.graph.now.graph.blocks c.links.ensures.blocks);
      items = omega (arith, few, c.if-room-ge-MOST-2.false, c.if-words_of-ge-MOST.false, c.words_of.ensures);
      procedures = omega (arith, few, c.if-room-ge-MOST-3.false, c.if-words_of-ge-MOST.false, c.words_of.ensures);
    }
