use Rattle.std.proofs.Common.{ap, arith}
use Rattle.sq_lookup.specs.Counts.{count_at}
use Rattle.sq_lookup.proofs.Counting.{times_all}
use Rattle.sq_lookup.proofs.counts.count_items.Goals as goal

pub returns : goal.returns
returns c = λ n. omega (arith, ap (λ xs. count_at xs n) c.new-counts.ensures.items, c.in_ok-add_bodies.ensures n, c.in_ok-add_blocks.ensures n, times_all c.args.graph.now.graph n)
