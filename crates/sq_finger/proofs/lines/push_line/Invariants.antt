use Rattle.std.proofs.Common.{◌≡◌, ◌++◌, ◌-◌}
use Rattle.sq_finger.specs.Lines.{block_line}
use Rattle.sq_finger.proofs.lines.push_line.Given as goal

abbrev pub invariant-loop-at : goal.invariant-loop-at
invariant-loop-at l = l.line.items ++ block_line l.block l.at (l.count - l.at) ≡ l.initial.line.items ++ block_line l.block 0 l.count
