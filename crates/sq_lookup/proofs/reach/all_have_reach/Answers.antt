use Rattle.std.proofs.Common.{IsTrue, is_some, refl, ap, arith}
use Rattle.sq_live.proofs.Layouts.{block_at}
use Rattle.sq_lookup.specs.Addresses.{HasReach}
use Rattle.sq_lookup.proofs.Reaching.{one_more, all_taken}
use Rattle.sq_lookup.proofs.reach.all_have_reach.Goals as goal

pub has_reach-requires-clause-block : goal.has_reach-requires-clause-block
has_reach-requires-clause-block c =
    let b = block_at c.args.graph.now.graph c.args.names.now c.loop-name.name-index c.requires.rules c.requires.names c.loop-name-test.true in
    ap is_some b.found

pub returns-then-not-has_reach : goal.returns-then-not-has_reach
returns-then-not-has_reach c = (
  λ e. absurd (cc),
  λ all.
      let yes : IsTrue c.has_reach.result = c.has_reach.ensures.1 (all c.loop-name.name-index 0 c.loop-name-test.true) in
      let no = c.if-not-has_reach.true in
      absurd (cc),
)

pub loop-name-preserved : goal.loop-name-preserved
loop-name-preserved c =
    one_more (HasReach c.args.graph.now.graph) c.args.names.now c.loop-name.name-index c.loop-name-test.true c.loop-name.invariant (c.has_reach.ensures.0 c.if-not-has_reach.false)

pub returns : goal.returns
returns c = (λ e. all_taken (HasReach c.args.graph.now.graph) c.args.names.now c.loop-name.name-index (omega arith) c.loop-name.invariant, λ all. refl)
