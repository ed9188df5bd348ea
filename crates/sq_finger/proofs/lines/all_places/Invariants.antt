use Rattle.std.proofs.Common.{◌≡◌, ◌++◌, drop}
use Rattle.sq_finger.specs.Lines.{line_in, line_of}
use Rattle.sq_finger.proofs.lines.all_places.Given as goal

abbrev pub invariant-loop-name : goal.invariant-loop-name
invariant-loop-name l = l.line.items ++ line_in l.graph.graph (drop l.name-index l.name-items) ≡ line_of l.graph.graph
