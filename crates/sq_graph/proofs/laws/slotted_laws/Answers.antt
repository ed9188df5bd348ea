use Rattle.sq_graph.proofs.Slotting.{slotted_alike, one_slotted}
use Rattle.sq_graph.proofs.laws.slotted_laws.Goals as goal

pub returns-clause-alike : goal.returns-clause-alike
returns-clause-alike c = slotted_alike

pub returns-clause-one : goal.returns-clause-one
returns-clause-one c = one_slotted
