use Rattle.std.proofs.Common.{◌≡◌}
use Rattle.sq_elf.specs.Memory.{segments_before}
use Rattle.sq_elf.proofs.loads.segments.Given as goal

abbrev pub invariant-loop-index : goal.invariant-loop-index
invariant-loop-index l = l.found.items ≡ segments_before l.bytes l.index
