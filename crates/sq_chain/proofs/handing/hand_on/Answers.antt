use Rattle.sq_chain.proofs.HandedOn.{handed_has, handed_more}
use Rattle.sq_chain.proofs.handing.hand_on.Goals as goal

pub hand_named-requires-clause-next : goal.hand_named-requires-clause-next
hand_named-requires-clause-next c =
    handed_has c.args.bare c.args.next c.args.graph.now.graph c.hand_held.new.graph.graph c.hand_held.ensures.handed c.args.next c.requires.next

pub returns-clause-handed : goal.returns-clause-handed
returns-clause-handed c =
    handed_more c.args.bare c.args.next c.args.graph.now.graph c.hand_held.new.graph.graph c.hand_named.new.graph.graph c.hand_held.ensures.handed c.hand_named.ensures.handed
