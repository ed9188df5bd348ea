use Rattle.sq_reloc.specs.Gathering.{IsGathered}
use Rattle.sq_reloc.specs.Repeats.{fresh_before}
use Rattle.sq_reloc.proofs.gathered.gathered_of.Given as goal

abbrev pub invariant-loop-index : goal.invariant-loop-index
invariant-loop-index l = IsGathered l.elf l.gathered (fresh_before l.elf l.index)
