use Rattle.std.proofs.Common.{◌+◌, drop, Some, ap, sym, ◌∙◌}
use Rattle.law_program.specs.Programs.{Note, Program}
use Rattle.law_program.specs.Notes.{bad_note_from}
use Rattle.sq_lift.specs.Flags.{is_flagged}
use Rattle.sq_lift.proofs.NoteBodies.{good_is, good_next, bad_here}
use Rattle.sq_lift.proofs.procedures.bad_note.Goals as goal

pub loop-place-preserved : goal.loop-place-preserved
loop-place-preserved c =
    let p : Program = record { text = c.args.text.now; entry = c.args.entry; code_words = c.args.code_words.now; notes = c.args.notes.now } in
    let note = c.index-notes-place.result in
    let good = sym (good_is (is_flagged c.args.reached.now) p c.in_ok-entrances.entrances c.in_ok-entrances.ensures c.loop-place.before note) ∙ sym c.if-not-is_good_note.ensures in
    c.loop-place.invariant
    ∙ good_next (is_flagged c.args.reached.now) p c.loop-place.before (c.loop-place.place + 1) c.loop-place.place c.args.notes.now note c.loop-place-test.true c.index-notes-place.is good
    ∙ ap (λ (n : Note). bad_note_from (is_flagged c.args.reached.now) p (Some n.address) (c.loop-place.place + 1 + 1) (drop (c.loop-place.place + 1) c.args.notes.now)) (sym c.note.view_is)

pub returns-then-not-is_good_note : goal.returns-then-not-is_good_note
returns-then-not-is_good_note c =
    let p : Program = record { text = c.args.text.now; entry = c.args.entry; code_words = c.args.code_words.now; notes = c.args.notes.now } in
    let note = c.index-notes-place.result in
    let bad = sym (good_is (is_flagged c.args.reached.now) p c.in_ok-entrances.entrances c.in_ok-entrances.ensures c.loop-place.before note) ∙ sym c.if-not-is_good_note.ensures in
    sym
    (c.loop-place.invariant
    ∙ bad_here (is_flagged c.args.reached.now) p c.loop-place.before (c.loop-place.place + 1) c.loop-place.place c.args.notes.now note c.loop-place-test.true c.index-notes-place.is bad)
