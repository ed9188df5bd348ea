use Rattle.std.proofs.Common.{◌+◌, get_or, drop, length, ◌∙◌, sym, ap, subst}
use Rattle.sq_graph.specs.Graph.{Graph}
use Rattle.sq_graph.specs.Blocks.{items_of}
use Rattle.sq_graph.specs.Operations.{without_block}
use Rattle.sq_jumps.specs.UnreachedClear.{without_each, MayGo}
use Rattle.sq_jumps.proofs.unreached.clear.remove_each.Goals as goal
use Rattle.sq_jumps.proofs.Totals.{without_total, total_by}
use Rattle.sq_jumps.proofs.UnreachedRemoved.{split_at_index, goes_there, goes_rules, others_may}

pub remove-requires-clause-block : goal.remove-requires-clause-block
remove-requires-clause-block c =
    let split = split_at_index c.args.blocks.now c.loop-block.block-index c.loop-block-test.true in
    goes_there c.loop-block.graph.graph _ _ c.learn.ensures.rules (subst (λ ns. MayGo c.loop-block.graph.graph ns) split c.loop-block.invariant.may)

pub remove-requires-clause-rules : goal.remove-requires-clause-rules
remove-requires-clause-rules c =
    let split = split_at_index c.args.blocks.now c.loop-block.block-index c.loop-block-test.true in
    goes_rules c.loop-block.graph.graph _ _ c.learn.ensures.rules (subst (λ ns. MayGo c.loop-block.graph.graph ns) split c.loop-block.invariant.may)

pub loop-block-preserved : goal.loop-block-preserved
loop-block-preserved c =
    let g = c.loop-block.graph.graph in
    let spare = c.loop-block.graph.spare in
    let block = get_or c.args.blocks.now c.loop-block.block-index 0 in
    let split = split_at_index c.args.blocks.now c.loop-block.block-index c.loop-block-test.true in
    let may = subst (λ ns. MayGo c.loop-block.graph.graph ns) split c.loop-block.invariant.may in
    let one = total_by c.loop-block.graph c.remove.new.self (without_block g block) (record spare { blocks = spare.blocks + 1; items = spare.items + length (items_of g block) }) c.remove.ensures.graph c.remove.ensures.spare
    (without_total g block spare (goes_there g _ _ c.learn.ensures.rules may)) in
    record {
      may = subst (λ (h : Graph). MayGo h (drop (c.loop-block.block-index + 1) c.args.blocks.now)) (sym c.remove.ensures.graph) (others_may g _ _ c.learn.ensures.rules may);
      same = c.loop-block.invariant.same ∙ ap (λ ns. without_each ns c.loop-block.graph.graph) split ∙ ap (without_each (drop (c.loop-block.block-index + 1) c.args.blocks.now)) (sym c.remove.ensures.graph);
      total = one ∙ c.loop-block.invariant.total;
    }
