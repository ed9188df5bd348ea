use Rattle.sq_chain.proofs.HandedOn.{handed_none, handed_more, handed_has}
use Rattle.sq_chain.proofs.naming.hand_items.Goals as goal

pub loop-step-init : goal.loop-step-init
loop-step-init c = record {
  on = handed_none c.args.bare c.args.next c.args.graph.now.graph;
  uses = c.requires.uses;
}

pub hand_spot-requires-clause-next : goal.hand_spot-requires-clause-next
hand_spot-requires-clause-next c =
    handed_has c.args.bare c.args.next c.args.graph.now.graph c.loop-step.graph.graph c.loop-step.invariant.on c.args.next c.requires.next

pub returns-then-not-hand_spot-clause-handed : goal.returns-then-not-hand_spot-clause-handed
returns-then-not-hand_spot-clause-handed c =
    handed_more c.args.bare c.args.next c.args.graph.now.graph c.loop-step.graph.graph c.hand_spot.new.graph.graph c.loop-step.invariant.on c.hand_spot.ensures.handed

pub loop-step-preserved : goal.loop-step-preserved
loop-step-preserved c = record {
  on = handed_more c.args.bare c.args.next c.args.graph.now.graph c.loop-step.graph.graph c.hand_spot.new.graph.graph c.loop-step.invariant.on c.hand_spot.ensures.handed;
  uses = c.hand_spot.ensures.uses c.if-not-hand_spot.false;
}
