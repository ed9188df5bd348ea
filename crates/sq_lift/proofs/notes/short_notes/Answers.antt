use Rattle.std.proofs.Common.{[], ◌∷◌, ◌++◌, ◌+◌, ◌*◌, length, ap, sym, ◌∙◌, arith}
use Rattle.law_program.specs.Programs.{Note}
use Rattle.law_program.specs.NoteSections.{short_notes}
use Rattle.sq_lift.proofs.NoteFacts.{short_more, short_count, short_note_is}
use Rattle.sq_lift.proofs.notes.short_notes.Goals as goal

pub loop-index-preserved : goal.loop-index-preserved
loop-index-preserved c =
    c.in_ok-push.ensures.items
    ∙ ap (λ notes. notes ++ c.short_note.result ∷ []) c.loop-index.invariant
    ∙ ap (λ (note : Note). short_notes c.args.text.now c.args.note.now 8 c.loop-index.index ++ note ∷ []) (c.short_note.ensures ∙ short_note_is c.args.text.now c.args.note.now (8 + 8 * c.loop-index.index) c.lo-lo.result c.deref.result.now c.lo-lo.ensures (c.deref.ensures.value ∙ c.in_ok-runs.ensures))
    ∙ sym (short_more c.args.text.now c.args.note.now 8 c.loop-index.index)

pub returns-clause-count : goal.returns-clause-count
returns-clause-count c =
    let count = ap length c.loop-index.invariant ∙ short_count c.args.text.now c.args.note.now 8 c.loop-index.index in omega (arith, count)
