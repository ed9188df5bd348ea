use Rattle.std.proofs.Common.{◌≡◌, ◌-◌}
use Rattle.law_program.specs.Notes.{has_body}
use Rattle.sq_lift.proofs.procedures.has_body.Given as goal

abbrev pub invariant-loop-index : goal.invariant-loop-index
invariant-loop-index l = has_body l.text l.link l.initial.at l.length ≡ has_body l.text l.link l.at (l.length - l._index)
