use Rattle.sq_chain.proofs.PassedOn.{passed_none, passed_more, passed_has}
use Rattle.sq_chain.proofs.passing.pass_jumps.Goals as goal

pub loop-step-init : goal.loop-step-init
loop-step-init c = record {
  on = passed_none c.args.bare c.args.next c.args.graph.now.graph;
  uses = c.requires.uses;
}

pub pass_term-requires-clause-next : goal.pass_term-requires-clause-next
pass_term-requires-clause-next c =
    passed_has c.args.bare c.args.next c.args.graph.now.graph c.loop-step.graph.graph c.loop-step.invariant.on c.args.next c.requires.next

pub returns-then-not-pass_term-clause-passed : goal.returns-then-not-pass_term-clause-passed
returns-then-not-pass_term-clause-passed c =
    passed_more c.args.bare c.args.next c.args.graph.now.graph c.loop-step.graph.graph c.pass_term.new.graph.graph c.loop-step.invariant.on c.pass_term.ensures.passed

pub loop-step-preserved : goal.loop-step-preserved
loop-step-preserved c = record {
  on = passed_more c.args.bare c.args.next c.args.graph.now.graph c.loop-step.graph.graph c.pass_term.new.graph.graph c.loop-step.invariant.on c.pass_term.ensures.passed;
  uses = c.pass_term.ensures.uses c.if-not-pass_term.false;
}
