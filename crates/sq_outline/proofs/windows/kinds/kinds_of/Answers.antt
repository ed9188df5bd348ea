use Rattle.std.proofs.Common.{◌≤◌, List, length, ap, ◌∙◌, subst, arith}
use Rattle.std.proofs.lemmas.List.{take_all}
use Rattle.sq_graph.specs.declared.item.Item.{Item}
use Rattle.sq_outline.specs.WindowsKinds.{kind_of, HasKinds}
use Rattle.sq_outline.proofs.WindowsKinds.{all_more, only_more}
use Rattle.sq_outline.proofs.windows.kinds.kinds_of.Goals as goal

pub loop-item-preserved : goal.loop-item-preserved
loop-item-preserved c =
    let own = c.kind.ensures ∙ ap kind_of c.item-item.is in
    record {
      all = all_more c.args.items.now c.loop-item.item-index c.item-item.result c.loop-item.kinds c.kind.result c.with-kinds.result c.loop-item-test.true c.with-kinds.ensures own c.loop-item.invariant.all;
      only = only_more c.args.items.now c.loop-item.item-index c.item-item.result c.loop-item.kinds c.kind.result c.with-kinds.result c.loop-item-test.true c.with-kinds.ensures own c.loop-item.invariant.only;
    }

pub returns-clause-all : goal.returns-clause-all
returns-clause-all c =
    let past : length c.args.items.now ≤ c.loop-item.item-index = omega arith in
    subst (λ (is : List Item). HasKinds is c.loop-item.kinds) (take_all c.loop-item.item-index c.args.items.now past) c.loop-item.invariant.all
