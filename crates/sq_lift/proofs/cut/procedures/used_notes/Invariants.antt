use Rattle.std.proofs.Common.{◌≡◌, ◌++◌, ◌≤◌, length, drop}
use Rattle.sq_lift.specs.Flags.{is_flagged}
use Rattle.law_program.specs.Notes.{used_notes}
use Rattle.sq_lift.proofs.cut.procedures.used_notes.Given as goal

abbrev pub invariant-loop-note : goal.invariant-loop-note
invariant-loop-note l = record {
  notes : l.used.items ++ used_notes (is_flagged l.reached) (drop l.note-index l.notes) ≡ used_notes (is_flagged l.reached) l.notes;
  count : length l.used.items ≤ l.note-index;
}
