use Rattle.std.proofs.Common.{◌≡◌, ◌++◌, take}
use Rattle.sq_hex.specs.Flash.{placed}
use Rattle.sq_hex.proofs.flash.next_are.Given as goal

abbrev pub invariant-loop-index : goal.invariant-loop-index
invariant-loop-index l = l.fn.entries ≡ placed l.address (take l.index l.bytes) ++ l.entries
