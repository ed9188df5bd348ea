use Rattle.sq_chain.proofs.HandedOn.{handed_none, handed_more, handed_has}
use Rattle.sq_chain.proofs.handing.hand_words.Goals as goal

pub loop-step-init : goal.loop-step-init
loop-step-init c = record {
  on = handed_none c.args.bare c.args.next c.args.graph.now.graph;
  uses = c.requires.uses;
}

pub hand_word-requires-clause-next : goal.hand_word-requires-clause-next
hand_word-requires-clause-next c =
    handed_has c.args.bare c.args.next c.args.graph.now.graph c.loop-step.graph.graph c.loop-step.invariant.on c.args.next c.requires.next

pub returns-then-not-hand_word-clause-handed : goal.returns-then-not-hand_word-clause-handed
returns-then-not-hand_word-clause-handed c =
    handed_more c.args.bare c.args.next c.args.graph.now.graph c.loop-step.graph.graph c.hand_word.new.graph.graph c.loop-step.invariant.on c.hand_word.ensures.handed

pub loop-step-preserved : goal.loop-step-preserved
loop-step-preserved c = record {
  on = handed_more c.args.bare c.args.next c.args.graph.now.graph c.loop-step.graph.graph c.hand_word.new.graph.graph c.loop-step.invariant.on c.hand_word.ensures.handed;
  uses = c.hand_word.ensures.uses c.if-not-hand_word.false;
}
