use Rattle.std.proofs.Common.{not, sym, ap, ◌∙◌, inl, inr}
use Rattle.std.proofs.lemmas.Bool.{cases_Bool}
use Rattle.sq_jumps.proofs.detour.is_detour.Goals as goal
use Rattle.sq_jumps.proofs.Booleans.{not_both}
use Rattle.sq_jumps.proofs.DetourTests.{detour_is, detour_not}

pub returns-then-to-block : goal.returns-then-to-block
returns-then-to-block c =
    let g = c.args.graph.now.graph in
    elim (cases_Bool c.has.result) [
      | inl is ↦ (λ yes. absurd (not_both c.has.result is yes), λ detour. absurd (detour_not g _ _ _ c.learn.ensures.rules c.requires.survey c.args.block (sym c.has.ensures ∙ is) detour))
      | inr none ↦ (
        λ yes. detour_is g _ _ _ c.learn.ensures.rules c.requires.survey c.args.block c.in-Some.to (sym c.jump_from.ensures ∙ c.in-Some.is) c.if-to-block.true (sym c.has.ensures ∙ none),
        λ detour. ap not none,
      )
    ]
