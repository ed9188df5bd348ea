use Rattle.sq_chain.proofs.Chains.{target_there}
use Rattle.sq_chain.proofs.moving.try_move.Goals as goal

pub end_of_chain-requires-clause-to : goal.end_of_chain-requires-clause-to
end_of_chain-requires-clause-to c = target_there c.args.graph.now.graph c.args.from c.args.to c.learn.ensures.rules c.requires.movable.jump
