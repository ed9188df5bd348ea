use Rattle.std.proofs.Common.{◌≡◌, map}
use Rattle.sq_elf.specs.Memory.{image_before}
use Rattle.sq_elf.specs.Images.{seen}
use Rattle.sq_elf.proofs.image.image_of.Given as goal

abbrev pub invariant-loop-index : goal.invariant-loop-index
invariant-loop-index l = map seen l.held.items ≡ image_before l.bytes l.index
