use Rattle.std.proofs.Common.{◌+◌, drop, ◌∙◌, sym, ap}
use Rattle.sq_jumps.specs.UnreachedClear.{cleared_each}
use Rattle.sq_jumps.proofs.UnreachedRemoved.{split_at_index, all_behind}
use Rattle.sq_jumps.proofs.unreached.clear.clear_each.Goals as goal

pub loop-block-preserved : goal.loop-block-preserved
loop-block-preserved c =
    let split = split_at_index c.args.blocks.now c.loop-block.block-index c.loop-block-test.true in
    record {
      there = all_behind _ _ c.args.blocks.now c.loop-block.block-index c.loop-block-test.true (λ n has. c.clear.ensures.blocks n has) c.loop-block.invariant.there;
      same = c.loop-block.invariant.same ∙ ap (λ ns. cleared_each ns c.loop-block.graph.graph) split ∙ ap (cleared_each (drop (c.loop-block.block-index + 1) c.args.blocks.now)) (sym c.clear.ensures.graph);
      total = c.clear.ensures.total ∙ c.loop-block.invariant.total;
    }
