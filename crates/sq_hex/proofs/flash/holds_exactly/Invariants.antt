use Rattle.std.proofs.Common.{◌≡◌, ◌++◌, take}
use Rattle.sq_hex.specs.Flash.{ranges_of, bytes_of}
use Rattle.sq_hex.proofs.flash.holds_exactly.Given as goal

abbrev pub invariant-loop-segment : goal.invariant-loop-segment
invariant-loop-segment l = l.map.entries ≡ bytes_of (ranges_of l.file (take l.segment-index l.loads)) ++ l.entries
