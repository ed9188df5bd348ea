use Rattle.std.proofs.Common.{inl, inr, Ok, ap, ◌∙◌}
use Rattle.sq_jumps.proofs.jumps.JumpsPass.find.Goals as goal

pub returns-clause-none : goal.returns-clause-none
returns-clause-none c = λ e cut candidate.
    elim candidate [
      | inl unreached ↦ c.find_unreached.ensures.none e cut unreached
      | inr jump ↦ c.find_block.ensures.none (c.in_ok-cut.was ∙ ap Ok c.in-None.is) cut jump
    ]
