use Rattle.sq_chain.proofs.HandedOn.{handed_has}
use Rattle.sq_chain.proofs.handing.hand_held.Goals as goal

pub hand_words-all-requires-clause-next : goal.hand_words-all-requires-clause-next
hand_words-all-requires-clause-next c =
    handed_has c.args.bare c.args.next c.args.graph.now.graph c.hand_entry.new.graph.graph c.hand_entry.ensures.handed c.args.next c.requires.next
