use Rattle.std.proofs.Common.{◌≡◌, map, take}
use Rattle.law_follow.specs.Values.{Byte}
use Rattle.sq_tagged.specs.Views.{cell_of}
use Rattle.sq_tagged.proofs.calls.cells_of.Given as goal

-- the cells so far
abbrev pub invariant-loop-byte : goal.invariant-loop-byte
invariant-loop-byte l = map cell_of l.cells.items ≡ map Byte (take l.byte-index l.bytes)
