use Rattle.std.proofs.Common.{List, subst, sym, ◌∙◌}
use Rattle.std.specs.Prelude.{MatchOption}
use Rattle.sq_graph.specs.declared.item.Item.{Item}
use Rattle.sq_graph.specs.Blocks.{items_of}
use Rattle.sq_rename.specs.Bodies.{IsBodyMatch, IsMatchBy, MayLive}
use Rattle.sq_tail.proofs.StillDead.{pair_by}
use Rattle.sq_tail.proofs.sweep.bodies.may_drop_for.Goals as goal

pub returns : goal.returns
returns c = λ sure.
    let g = c.args.graph.now.graph in
    let dropped = c.args.dropped in
    let kept = c.args.kept in
    let dead = c.args.dead in
    let told =
    subst (λ (items : List Item). MatchOption c.match_items.result (¬ IsBodyMatch g.procedures items c.items-2.result.now (MayLive dead)) (IsMatchBy g.procedures items c.items-2.result.now (MayLive dead))) c.items.ensures
    c.match_items.ensures in
    let all =
    subst (λ (others : List Item). MatchOption c.match_items.result (¬ IsBodyMatch g.procedures (items_of g dropped) others (MayLive dead)) (IsMatchBy g.procedures (items_of g dropped) others (MayLive dead))) c.items-2.ensures told in
    pair_by g dropped kept dead c.if-kept-dropped.false c.requires.may_drop c.requires.dead (c.go_on_alike.ensures.0 c.if-not-go_on_alike.false) c.match_items.result all (sym c.is_some.ensures ∙ sure)
