use Rattle.std.proofs.Common.{get_or, ap, is_some, sym, ◌∙◌, subst}
use Rattle.sq_graph.specs.Uses.{uses}
use Rattle.sq_live.proofs.Layouts.{block_at}
use Rattle.sq_jumps.specs.Lone.{IsBypassable}
use Rattle.sq_jumps.proofs.LoneApart.{detour_bypassable, listed_among}
use Rattle.sq_jumps.proofs.lone.detours_together.Goals as goal

pub is_detour-requires-clause-block : goal.is_detour-requires-clause-block
is_detour-requires-clause-block c =
    ap is_some (block_at c.args.graph.now.graph c.deref-name-items.result.now c.loop-name.name-index c.learn.ensures.rules (c.deref-name-items.ensures.value ∙ c.in_ok-names.ensures) c.loop-name-test.true).found

pub choose-requires-clause-block : goal.choose-requires-clause-block
choose-requires-clause-block c =
    let g = c.args.graph.now.graph in
    let block = get_or c.deref-name-items.result.now c.loop-name.name-index 0 in
    let named = listed_among (uses g) block (sym (c.in_ok-survey.ensures.uses_are block) ∙ sym c.has.ensures ∙ c.if-has.true) in
    subst (λ row. IsBypassable row g block) (sym c.loop-name.invariant.row) (detour_bypassable g block (c.is_detour.ensures.0 c.if-is_detour.true) named)
