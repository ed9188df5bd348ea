use Rattle.sq_machine.specs.Ranges.{IsBareRam}
use Rattle.sq_machine.proofs.bare_ram.bare_ram.Given as goal

abbrev pub invariant-loop-piece : goal.invariant-loop-piece
invariant-loop-piece l = IsBareRam l.pieces l.base l.size l.bare
