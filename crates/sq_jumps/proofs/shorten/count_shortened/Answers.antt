use Rattle.std.proofs.Common.{arith}
use Rattle.sq_jumps.proofs.shorten.count_shortened.Goals as goal
use Rattle.sq_jumps.proofs.ShortenSwept.{few_jumps, all_rewritten}

pub overflow_cast-done : goal.overflow_cast-done
overflow_cast-done c =
    let few = few_jumps c.args.graph.now.graph c.args.blocks.now c.args.savings c.learn.ensures.rules c.requires.canonical c.requires.distinct c.requires.jumps in
    omega (arith, c.requires.words)

pub count-requires : goal.count-requires
count-requires c =
    let few = few_jumps c.args.graph.now.graph c.args.blocks.now c.args.savings c.learn.ensures.rules c.requires.canonical c.requires.distinct c.requires.jumps in
    omega (arith, c.requires.words)

pub returns : goal.returns
returns c =
    all_rewritten c.args.graph.now.graph c.args.blocks.now c.args.savings c.learn.ensures.rules c.requires.canonical c.requires.distinct c.requires.jumps c.shorten_each.new.graph.graph c.count.result c.shorten_each.ensures c.count.ensures.value
