use Rattle.std.proofs.Common.{◌≡◌, take}
use Rattle.std.specs.List.{All}
use Rattle.sq_chain.specs.Candidates.{IsStillAt}
use Rattle.sq_chain.specs.Moves.{AreEnds}
use Rattle.sq_chain.proofs.moving.move_first.Given as goal

abbrev pub invariant-loop-name : goal.invariant-loop-name
invariant-loop-name l = record {
  same : l.graph ≡ l.initial.graph;
  still : All (IsStillAt l.initial.graph.graph) (take l.name-index l.names);
  ends : AreEnds l.initial.graph.graph l.ends;
}
