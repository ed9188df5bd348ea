use Rattle.std.proofs.Common.{◌≡◌, ℕ, take}
use Rattle.sq_lookup.specs.Names.{is_listed}
use Rattle.sq_jumps.specs.Unreached.{is_called_in}
use Rattle.sq_jumps.proofs.unreached.called_procedures.Given as goal

abbrev pub invariant-loop-name : goal.invariant-loop-name
invariant-loop-name l = (q : ℕ) → is_listed l.called q ≡ is_called_in (is_listed l.marks) (take l.name-index l.graph.graph.blocks) q
