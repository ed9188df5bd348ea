use Rattle.sq_write.proofs.TextWalks.{NoteLeaves}
use Rattle.sq_write.proofs.note.push_note_entries.Given as goal

abbrev pub invariant-loop-procedure : goal.invariant-loop-procedure
invariant-loop-procedure l = NoteLeaves l.placed.g.now.graph l.placed.lo l.procedure l.fn.note.items l.note.items
