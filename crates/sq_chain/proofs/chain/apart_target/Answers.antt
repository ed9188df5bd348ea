use Rattle.sq_chain.proofs.Chains.{target_there}
use Rattle.sq_chain.proofs.chain.apart_target.Goals as goal

pub is_apart-requires : goal.is_apart-requires
is_apart-requires c = record { block = target_there c.args.graph.now.graph c.args.from c.in-Jump.to c.learn.ensures.rules c.in-Jump.ensures }
