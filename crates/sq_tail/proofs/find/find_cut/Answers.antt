use Rattle.std.proofs.Common.{inl, inr, Ok, ap, ◌∙◌}
use Rattle.sq_tail.proofs.find.find_cut.Goals as goal

pub returns-in-None-clause-none : goal.returns-in-None-clause-none
returns-in-None-clause-none c = λ e cut candidate.
    elim candidate [
      | inl tail ↦ c.find_tail_cut.ensures.none (c.in_ok-cut.was ∙ ap Ok c.in-None.is) cut tail
      | inr body ↦ c.find_body_cut.ensures.none e cut body
    ]
