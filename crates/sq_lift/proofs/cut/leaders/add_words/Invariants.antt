use Rattle.std.proofs.Common.{take}
use Rattle.sq_lift.specs.Flags.{is_flagged}
use Rattle.law_program.specs.Lifted.{words_lead}
use Rattle.sq_lift.specs.Raised.{Raises}
use Rattle.sq_lift.proofs.cut.leaders.add_words.Given as goal

abbrev pub invariant-loop-place : goal.invariant-loop-place
invariant-loop-place l =
    Raises (words_lead (is_flagged l.reached) l.procedures l.text l.text.lo (take l.place l.text.words)) l.initial.set l.set
