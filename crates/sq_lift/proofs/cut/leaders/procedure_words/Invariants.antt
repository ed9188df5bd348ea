use Rattle.std.proofs.Common.{take}
use Rattle.law_program.specs.Notes.{is_in_procedures}
use Rattle.sq_lift.specs.Raised.{Raises}
use Rattle.sq_lift.proofs.cut.leaders.procedure_words.Given as goal

abbrev pub invariant-loop-note : goal.invariant-loop-note
invariant-loop-note l = Raises (is_in_procedures (take l.note-index l.procedures)) l.initial.set l.set
