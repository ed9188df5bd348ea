use Rattle.std.proofs.Common.{◌≡◌, Some, ap, sym, ◌∙◌}
use Rattle.law_program.specs.NoteSections.{notes_in, notes_in_bytes, notes_of}
use Rattle.sq_lift.proofs.NoteFacts.{by_section, notes_by_section}
use Rattle.sq_lift.proofs.notes.notes_of.Goals as goal

pub returns-in-Missing-clause-notes : goal.returns-in-Missing-clause-notes
returns-in-Missing-clause-notes c =
    ap Some c.new.ensures.items ∙ ap (by_section c.args.elf.now c.args.text.now) c.in-Missing.ensures ∙ sym (notes_by_section c.args.elf.now c.args.text.now)

pub returns-in-Some-clause-notes : goal.returns-in-Some-clause-notes
returns-in-Some-clause-notes c =
    let is : notes_in c.args.text.now c.in-Some.note.now ≡ notes_of c.args.elf.now c.args.text.now =
    ap (notes_in_bytes c.args.text.now) c.in-Some.ensures
    ∙ ap (by_section c.args.elf.now c.args.text.now) c.in-At.ensures
    ∙ sym (notes_by_section c.args.elf.now c.args.text.now)
    in
    rw (← is) c.notes_in.ensures.notes

pub returns-in-None-clause-notes : goal.returns-in-None-clause-notes
returns-in-None-clause-notes c =
    ap (notes_in_bytes c.args.text.now) c.in-None.ensures
    ∙ ap (by_section c.args.elf.now c.args.text.now) c.in-At.ensures
    ∙ sym (notes_by_section c.args.elf.now c.args.text.now)

pub returns-in-Several-clause-notes : goal.returns-in-Several-clause-notes
returns-in-Several-clause-notes c =
    ap (by_section c.args.elf.now c.args.text.now) c.in-Several.ensures ∙ sym (notes_by_section c.args.elf.now c.args.text.now)
