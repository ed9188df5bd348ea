use Rattle.std.proofs.Common.{arith}
use Rattle.sq_live.proofs.Layouts.{length-names}
use Rattle.sq_lookup.specs.Names.{is_listed}
use Rattle.sq_chain.proofs.Adding.{next_round, last_round, all_rounds}
use Rattle.sq_chain.proofs.least.least_widening.Goals as goal

pub returns-then-not-branch : goal.returns-then-not-branch
returns-then-not-branch c =
    let g = c.args.graph.now.graph in
    let count = length-names g c.args.names.now c.requires in
    let turn = c.loop-round-test.true in
    let none = c.if-not-branch.true in
    last_round g c.loop-round._round-index (is_listed c.loop-round.wide) (is_listed c.add_short.new.wide) (omega (arith, count, turn)) c.loop-round.invariant c.in_ok-add_short.ensures.grown (c.in_ok-add_short.ensures.same (cc))

pub loop-round-preserved : goal.loop-round-preserved
loop-round-preserved c =
    next_round c.args.graph.now.graph c.loop-round._round-index (is_listed c.loop-round.wide) (is_listed c.add_short.new.wide) c.loop-round.invariant c.in_ok-add_short.ensures.grown

pub returns : goal.returns
returns c =
    let g = c.args.graph.now.graph in
    let count = length-names g c.args.names.now c.requires in
    all_rounds g c.loop-round._round-index (is_listed c.loop-round.wide) (omega (arith, count)) c.loop-round.invariant
