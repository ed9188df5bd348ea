use Rattle.std.proofs.Common.{◌≡◌, ◌≤◌, List, false, length, refl, sym, ap, ◌∙◌, subst, arith}
use Rattle.std.specs.List.{All}
use Rattle.std.proofs.lemmas.List.{take_all}
use Rattle.sq_graph.specs.Rules.{mentions}
use Rattle.sq_graph.specs.declared.item.Item.{Item}
use Rattle.sq_outline.proofs.Early.{one_more}
use Rattle.sq_outline.proofs.link.is_unmentioned.Goals as goal

pub loop-item-preserved : goal.loop-item-preserved
loop-item-preserved c =
    one_more (λ item. mentions item c.args.r ≡ false) c.args.items.now c.loop-item.item-index c.item-item.result c.loop-item-test.true c.loop-item.invariant
    (ap (λ item. mentions item c.args.r) (sym c.item-item.is) ∙ sym c.mentions.ensures ∙ c.if-mentions.false)

pub returns : goal.returns
returns c =
    let past : length c.args.items.now ≤ c.loop-item.item-index = omega arith in (
      λ yes. subst (λ (is : List Item). All (λ item. mentions item c.args.r ≡ false) is) (take_all c.loop-item.item-index c.args.items.now past) c.loop-item.invariant,
      λ all. refl,
    )
