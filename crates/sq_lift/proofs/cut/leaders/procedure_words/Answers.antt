use Rattle.std.proofs.Common.{◌≡◌, ◌<◌, length, get_or}
use Rattle.std.proofs.lemmas.List.{take_all}
use Rattle.law_program.specs.Notes.{is_in_procedures}
use Rattle.sq_lift.proofs.Raising.{raised_set, raises_procedure}
use Rattle.sq_lift.proofs.cut.leaders.procedure_words.Goals as goal

pub loop-note-preserved : goal.loop-note-preserved
loop-note-preserved c =
    let same = c.notes-note-items.ensures in
    let near : c.loop-note.note-index < length c.args.procedures.now = rw same at c.loop-note-test.true in
    let here : c.note-item.result ≡ get_or c.args.procedures.now c.loop-note.note-index c.note-item.result = rw same at c.note-item.is in
    raises_procedure c.args.procedures.now c.loop-note.note-index c.note-item.result near here c.loop-note.invariant c.add_procedure.ensures

pub returns : goal.returns
returns c =
    let far = rw c.notes-note-items.ensures at c.loop-note-test.false in
    let all = take_all c.loop-note.note-index c.args.procedures.now far in
    raised_set c.args.text.now (is_in_procedures c.args.procedures.now) c.in_ok-set.set c.loop-note.set c.in_ok-set.ensures (rw all at c.loop-note.invariant)
