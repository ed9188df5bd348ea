use Rattle.std.proofs.Common.{◌<◌, ℕ}
use Rattle.sq_outline.specs.Inlined.{IsInlinable}
use Rattle.sq_outline.proofs.inline.find_inline.Given as goal

abbrev pub invariant-loop-procedure : goal.invariant-loop-procedure
invariant-loop-procedure l = (p : ℕ) → p < l.procedure → (saving : ℕ) → ¬ IsInlinable l.graph.graph p saving
