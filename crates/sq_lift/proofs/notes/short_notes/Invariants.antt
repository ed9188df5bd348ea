use Rattle.std.proofs.Common.{◌≡◌}
use Rattle.law_program.specs.NoteSections.{short_notes}
use Rattle.sq_lift.proofs.notes.short_notes.Given as goal

abbrev pub invariant-loop-index : goal.invariant-loop-index
invariant-loop-index l = l.notes.items ≡ short_notes l.text l.note 8 l.index
