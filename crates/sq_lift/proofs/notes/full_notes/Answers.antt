use Rattle.std.proofs.Common.{[], ◌∷◌, ◌++◌, length, ap, sym, ◌∙◌, arith}
use Rattle.law_program.specs.NoteSections.{full_notes}
use Rattle.sq_lift.proofs.NoteEntries.{full_more, full_count}
use Rattle.sq_lift.proofs.notes.full_notes.Goals as goal

pub loop-index-preserved : goal.loop-index-preserved
loop-index-preserved c =
    c.in_ok-push.ensures.items
    ∙ ap (λ notes. notes ++ c.full_note.result ∷ []) c.loop-index.invariant
    ∙ ap (λ note. full_notes c.args.note.now 8 c.loop-index.index ++ note ∷ []) c.full_note.ensures
    ∙ sym (full_more c.args.note.now 8 c.loop-index.index)

pub returns-clause-count : goal.returns-clause-count
returns-clause-count c =
    let count = ap length c.loop-index.invariant ∙ full_count c.args.note.now 8 c.loop-index.index in omega (arith, count)
