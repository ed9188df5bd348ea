use Rattle.sq_reloc.specs.Gathering.{IsNoted}
use Rattle.sq_reloc.specs.Repeats.{fresh_before}
use Rattle.sq_reloc.proofs.words.noted_of.Given as goal

abbrev pub invariant-loop-index : goal.invariant-loop-index
invariant-loop-index l = IsNoted l.elf l.noted (fresh_before l.elf l.index)
