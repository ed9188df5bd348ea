use Rattle.std.proofs.Common.{map, take}
use Rattle.sq_isa.specs.Registers.{is_among}
use Rattle.law_program.specs.Programs.{target_of}
use Rattle.sq_lift.specs.Raised.{Raises}
use Rattle.sq_lift.proofs.cut.leaders.add_targets.Given as goal

abbrev pub invariant-loop-word : goal.invariant-loop-word
invariant-loop-word l = Raises (is_among (map target_of (take l.word-index l.words))) l.initial.set l.set
