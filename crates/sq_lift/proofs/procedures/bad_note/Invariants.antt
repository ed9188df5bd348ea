use Rattle.std.proofs.Common.{◌≡◌, ◌+◌, None, drop}
use Rattle.law_program.specs.Programs.{Program}
use Rattle.law_program.specs.Notes.{bad_note_from}
use Rattle.sq_lift.specs.Flags.{is_flagged}
use Rattle.sq_lift.proofs.procedures.bad_note.Given as goal

-- the notes so far are good, so the first bad one is that of the others
abbrev pub invariant-loop-place : goal.invariant-loop-place
invariant-loop-place l =
    let p : Program = record { text = l.text; entry = l.entry; code_words = l.code_words; notes = l.notes } in
    bad_note_from (is_flagged l.reached) p None 1 l.notes ≡ bad_note_from (is_flagged l.reached) p l.before (l.place + 1) (drop l.place l.notes)
