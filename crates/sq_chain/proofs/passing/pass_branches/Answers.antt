use Rattle.std.proofs.Common.{sym, ◌∙◌}
use Rattle.sq_lookup.proofs.Previous.{next_there}
use Rattle.sq_chain.proofs.PassedOn.{passed_none, passed_more, passed_has}
use Rattle.sq_chain.proofs.passing.pass_branches.Goals as goal

pub returns-in_default-clause-passed : goal.returns-in_default-clause-passed
returns-in_default-clause-passed c = passed_none c.args.bare c.args.next c.args.graph.now.graph

pub loop-slot-init : goal.loop-slot-init
loop-slot-init c = record {
  on = passed_none c.args.bare c.args.next c.args.graph.now.graph;
  uses = c.requires.uses;
  has = c.in-Some.ensures.0;
}

pub pass_term-requires-clause-next : goal.pass_term-requires-clause-next
pass_term-requires-clause-next c =
    passed_has c.args.bare c.args.next c.args.graph.now.graph c.loop-slot.graph.graph c.loop-slot.invariant.on c.args.next c.requires.next

pub returns-then-not-pass_term-clause-passed : goal.returns-then-not-pass_term-clause-passed
returns-then-not-pass_term-clause-passed c =
    passed_more c.args.bare c.args.next c.args.graph.now.graph c.loop-slot.graph.graph c.pass_term.new.graph.graph c.loop-slot.invariant.on c.pass_term.ensures.passed

pub returns-then-not-has-clause-passed : goal.returns-then-not-has-clause-passed
returns-then-not-has-clause-passed c =
    passed_more c.args.bare c.args.next c.args.graph.now.graph c.loop-slot.graph.graph c.pass_term.new.graph.graph c.loop-slot.invariant.on c.pass_term.ensures.passed

pub next-requires : goal.next-requires
next-requires c =
    passed_has c.args.bare c.args.next c.loop-slot.graph.graph c.pass_term.new.graph.graph c.pass_term.ensures.passed c.loop-slot.block c.loop-slot.invariant.has

pub returns-in_default-next-clause-passed : goal.returns-in_default-next-clause-passed
returns-in_default-next-clause-passed c =
    passed_more c.args.bare c.args.next c.args.graph.now.graph c.loop-slot.graph.graph c.pass_term.new.graph.graph c.loop-slot.invariant.on c.pass_term.ensures.passed

pub loop-slot-preserved : goal.loop-slot-preserved
loop-slot-preserved c = record {
  on = passed_more c.args.bare c.args.next c.args.graph.now.graph c.loop-slot.graph.graph c.pass_term.new.graph.graph c.loop-slot.invariant.on c.pass_term.ensures.passed;
  uses = c.pass_term.ensures.uses c.if-not-pass_term.false;
  has = next_there c.pass_term.new.graph.graph.blocks c.loop-slot.block c.in-Some-next.after (sym c.next.ensures ∙ c.in-Some-next.is);
}
