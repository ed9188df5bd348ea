use Rattle.std.proofs.Common.{◌≡◌, ◌++◌, map, drop}
use Rattle.sq_fold.specs.Splitting.{node_by}
use Rattle.sq_fold.proofs.splitting.nodes_in.Given as goal

abbrev pub invariant-loop-place : goal.invariant-loop-place
invariant-loop-place l = l.found.items ++ map (node_by l.nodes l.classes) (drop l.place-index l.places) ≡ map (node_by l.nodes l.classes) l.places
