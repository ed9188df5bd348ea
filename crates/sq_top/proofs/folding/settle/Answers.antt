use Rattle.sq_top.proofs.FoldedOutput.{settled_less}
use Rattle.sq_top.proofs.folding.settle.Goals as goal

pub returns-clause-less : goal.returns-clause-less
returns-clause-less c = settled_less c.in_ok-_savings._savings c.args.graph.now.graph c.settle_slotted.new.graph.graph c.in_ok-_savings.ensures.rewritten c.in_ok-_savings.ensures.slotted
