use Rattle.std.proofs.Common.{◌∙◌, get_or, arith}
use Rattle.sq_finger.proofs.Layouts.{name_there}
use Rattle.sq_finger.proofs.Placing.{few_items}
use Rattle.sq_finger.proofs.lines.all_places.Goals as goal

pub items-requires : goal.items-requires
items-requires c =
    name_there c.args.graph.now.graph c.deref-name-items.result.now c.loop-name.name-index (c.deref-name-items.ensures.value ∙ c.in_ok-names.ensures) c.loop-name-test.true

pub overflow_cast-items : goal.overflow_cast-items
overflow_cast-items c =
    let g = c.args.graph.now.graph in
    let names = c.deref-name-items.result.now in
    let there = name_there g names c.loop-name.name-index (c.deref-name-items.ensures.value ∙ c.in_ok-names.ensures) c.loop-name-test.true in
    let few = few_items g (get_or names c.loop-name.name-index 0) c.args.graph.now.spare.items there c.learn.ensures.small.items in
    rw c.items.ensures (omega arith)
