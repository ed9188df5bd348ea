use Rattle.std.proofs.Common.{◌≡◌}
use Rattle.sq_lift.specs.NoteReading.{note_numbers_before, one_of}
use Rattle.sq_lift.proofs.notes.note_section.Given as goal

abbrev pub invariant-loop-number : goal.invariant-loop-number
invariant-loop-number l = l.found ≡ one_of (note_numbers_before l.elf l.number)
