use Rattle.std.proofs.Common.{◌≡◌}
use Rattle.law_program.specs.NoteSections.{full_notes}
use Rattle.sq_lift.proofs.notes.full_notes.Given as goal

abbrev pub invariant-loop-index : goal.invariant-loop-index
invariant-loop-index l = l.notes.items ≡ full_notes l.note 8 l.index
