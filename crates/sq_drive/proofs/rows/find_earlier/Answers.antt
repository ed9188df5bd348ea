use Rattle.std.proofs.Common.{inl, inr, Ok, ap, ◌∙◌}
use Rattle.sq_drive.proofs.rows.find_earlier.Goals as goal

pub returns-clause-none : goal.returns-clause-none
returns-clause-none c = λ e cut candidate.
    elim candidate [
      | inl jump ↦ c.find.ensures.none (c.in_ok-cut.was ∙ ap Ok c.in_default.is) cut jump
      | inr (inl tail) ↦ c.find-2.ensures.none (c.in_ok-cut-2.was ∙ ap Ok c.in_default-2.is) cut tail
      | inr (inr outline) ↦ c.find-3.ensures.none e cut outline
    ]
