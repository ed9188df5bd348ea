use Rattle.sq_lifted.proofs.OneReading.{lifted_one}
use Rattle.sq_lifted.proofs.lifted_graphs_are_one.Goals as goal

pub returns : goal.returns
returns c = λ bytes g h. lifted_one bytes g h
