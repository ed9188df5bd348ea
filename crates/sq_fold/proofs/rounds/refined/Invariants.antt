use Rattle.std.proofs.Common.{◌≡◌, ◌++◌, drop}
use Rattle.sq_fold.specs.Stable.{keys_by}
use Rattle.sq_fold.proofs.rounds.refined.Given as goal

abbrev pub invariant-loop-node : goal.invariant-loop-node
invariant-loop-node l = l.keys.items ++ keys_by (drop l.node-index l.nodes) l.classes ≡ keys_by l.nodes l.classes
