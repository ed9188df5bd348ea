use Rattle.std.proofs.Common.{◌≡◌, map, take}
use Rattle.law_follow.specs.Values.{byte_of}
use Rattle.sq_tagged.specs.Views.{cell_of}
use Rattle.sq_tagged.proofs.calls.bytes_of.Given as goal

-- the bytes so far
abbrev pub invariant-loop-cell : goal.invariant-loop-cell
invariant-loop-cell l = l.bytes.items ≡ map byte_of (map cell_of (take l.cell-index l.cells))
