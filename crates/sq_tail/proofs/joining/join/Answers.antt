use Rattle.std.proofs.Common.{◌≤◌, ◌-◌, ◌+◌, List, length, sym, ap, subst, arith}
use Rattle.sq_graph.specs.declared.item.Item.{Item}
use Rattle.sq_graph.specs.Blocks.{HasBlock, items_of}
use Rattle.sq_graph.specs.Graph.{Graph}
use Rattle.sq_graph.specs.Operations.{split_at}
use Rattle.sq_tail.proofs.Sizes.{few_items}
use Rattle.sq_tail.proofs.Joined.{whole_joined, split_ends}
use Rattle.sq_tail.proofs.Totals.{total_by, total_through, split_total}
use Rattle.sq_tail.proofs.joining.join.Goals as goal

pub overflow_cast-at : goal.overflow_cast-at
overflow_cast-at c =
    let few = few_items c.args.graph.now c.args.dropped c.learn.ensures.small in
    let is = ap length c.items.ensures in
    omega arith

pub overflow_cast-from : goal.overflow_cast-from
overflow_cast-from c =
    let few = few_items c.args.graph.now c.args.kept c.learn.ensures.small in
    let is = ap length c.items-2.ensures in
    omega arith

pub end_in_jump-requires-else-from-eq0-clause-block : goal.end_in_jump-requires-else-from-eq0-clause-block
end_in_jump-requires-else-from-eq0-clause-block c =
    subst (λ h. HasBlock h c.args.dropped) (sym c.split-new.ensures.graph) (split_ends c.args.graph.now.graph c.split-new.result c.args.dropped c.args.kept c.args.length (length c.items-2.result.now - c.args.length) c.split-new.ensures.new c.requires.tails (omega (arith, ap length c.items-2.ensures, c.requires.tails.kept_items))).has

pub end_in_jump-requires-else-from-eq0-clause-target : goal.end_in_jump-requires-else-from-eq0-clause-target
end_in_jump-requires-else-from-eq0-clause-target c =
    subst (λ h. HasBlock h c.split-new.result) (sym c.split-new.ensures.graph) (split_ends c.args.graph.now.graph c.split-new.result c.args.dropped c.args.kept c.args.length (length c.items-2.result.now - c.args.length) c.split-new.ensures.new c.requires.tails (omega (arith, ap length c.items-2.ensures, c.requires.tails.kept_items))).there

pub end_in_jump-requires-else-from-eq0-clause-items : goal.end_in_jump-requires-else-from-eq0-clause-items
end_in_jump-requires-else-from-eq0-clause-items c =
    let ends = split_ends c.args.graph.now.graph c.split-new.result c.args.dropped c.args.kept c.args.length (length c.items-2.result.now - c.args.length) c.split-new.ensures.new c.requires.tails (omega (arith, ap length c.items-2.ensures, c.requires.tails.kept_items)) in
    subst (λ (h : Graph). length c.items.result.now - c.args.length + length (items_of h c.split-new.result) ≤ length (items_of h c.args.dropped)) (sym c.split-new.ensures.graph)
    (omega (arith, ends.new_items, ends.dropped_items, ap length c.items.ensures, c.requires.tails.dropped_items))

pub returns-then-from-eq0-clause-graph : goal.returns-then-from-eq0-clause-graph
returns-then-from-eq0-clause-graph c =
    whole_joined c.args.graph.now.graph c.end_in_jump.new.graph.graph c.args.dropped c.args.kept c.args.length (length c.items.result.now - c.args.length)
    (omega (arith, c.requires.tails.kept_items, ap length c.items-2.ensures, c.if-from-eq0.true)) (ap (λ (is : List Item). length is - c.args.length) c.items.ensures) c.end_in_jump.ensures.graph

pub returns-else-from-eq0-clause-total : goal.returns-else-from-eq0-clause-total
returns-else-from-eq0-clause-total c =
    let g = c.args.graph.now.graph in
    let mid = c.split-new.new.self in
    let split = total_by c.args.graph.now mid (split_at g c.split-new.result c.args.kept (length c.items-2.result.now - c.args.length)) _ c.split-new.ensures.graph c.split-new.ensures.spare
    (split_total g c.split-new.result c.args.kept (length c.items-2.result.now - c.args.length) c.args.graph.now.spare c.requires.tails.kept_there c.requires.spare) in
    total_through c.args.graph.now mid c.end_in_jump-else-from-eq0.new.graph split c.end_in_jump-else-from-eq0.ensures.total
