use Rattle.std.proofs.Common.{get_or, ap, is_some, sym, ◌∙◌, subst}
use Rattle.sq_live.proofs.Layouts.{block_at}
use Rattle.sq_jumps.specs.Lone.{IsBypassable}
use Rattle.sq_jumps.proofs.LoneApart.{next_bypassable}
use Rattle.sq_jumps.proofs.lone.falls_together.Goals as goal

pub jump_from-requires : goal.jump_from-requires
jump_from-requires c =
    ap is_some (block_at c.args.graph.now.graph c.deref-name-items.result.now c.loop-name.name-index c.learn.ensures.rules (c.deref-name-items.ensures.value ∙ c.in_ok-names.ensures) c.loop-name-test.true).found

pub choose-requires-clause-block : goal.choose-requires-clause-block
choose-requires-clause-block c =
    let g = c.args.graph.now.graph in
    let block = get_or c.deref-name-items.result.now c.loop-name.name-index 0 in
    subst (λ row. IsBypassable row g block) (sym c.loop-name.invariant.row)
    (next_bypassable g block c.learn.ensures.rules (ap is_some (sym c.jump_from.ensures) ∙ sym c.is_some.ensures ∙ c.if-is_some.true) (c.jumps_to_next.ensures.0 c.if-jumps_to_next.true))
