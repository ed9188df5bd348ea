use Rattle.std.proofs.Common.{◌≡◌, Ok, ap, subst, inl, inr, arith}
use Rattle.std.proofs.lemmas.Bool.{cases_lt}
use Rattle.sq_outline.specs.Inlined.{IsInlinable}
use Rattle.sq_outline.proofs.inline.find_inline.Goals as goal

pub loop-procedure-preserved : goal.loop-procedure-preserved
loop-procedure-preserved c = λ p below saving inlinable.
    elim (cases_lt p c.loop-procedure.procedure) [
      | inl sooner ↦ c.loop-procedure.invariant p sooner saving inlinable
      | inr later ↦
          let here : p ≡ c.loop-procedure.procedure = omega (arith, below, later) in
          c.in_ok-saving.ensures.none (ap Ok c.in_default.is) saving (subst (λ q. IsInlinable c.args.graph.now.graph q saving) here inlinable)
    ]

pub returns-clause-none : goal.returns-clause-none
returns-clause-none c = λ none cut inlined.
    let inlinable = inlined.inlinable in
    c.loop-procedure.invariant inlined.procedure (omega (arith, inlinable.there, c.loop-procedure-test.false, c.procedures-procedure-end.ensures)) inlined.saving inlined.inlinable
