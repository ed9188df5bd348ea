use Rattle.std.proofs.Common.{◌≡◌, ◌+◌, ◌*◌, drop}
use Rattle.law_program.specs.Faults.{fault_from}
use Rattle.sq_lift.specs.Flags.{is_flagged}
use Rattle.sq_lift.proofs.faults.text_fault.Given as goal

-- the words so far have no fault, so the first is that of the others
abbrev pub invariant-loop-place : goal.invariant-loop-place
invariant-loop-place l =
    fault_from (is_flagged l.reached) l.text l.text.lo l.text.words ≡ fault_from (is_flagged l.reached) l.text (l.text.lo + 4 * l.place) (drop l.place l.text.words)
