use Rattle.sq_chain.specs.Moves.{fallen, carried}
use Rattle.sq_chain.proofs.Found.{AreFound}
use Rattle.sq_chain.proofs.looks.outlook_by.Given as goal

abbrev pub invariant-loop-size : goal.invariant-loop-size
invariant-loop-size l = AreFound l.graph.graph (fallen (carried l.graph.graph l.corners.from l.corners.to)) l.wide l.size
