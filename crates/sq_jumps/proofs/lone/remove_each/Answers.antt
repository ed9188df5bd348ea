use Rattle.std.proofs.Common.{◌+◌, ◌≡◌, get_or, drop, [], subst, arith}
use Rattle.std.proofs.lemmas.List.{drop_all}
use Rattle.sq_jumps.proofs.LoneGo.{Goes, together_rules, none_gone, there, rules_left, fits, one_gone, all_gone}
use Rattle.sq_jumps.proofs.UnreachedRemoved.{split_at_index}
use Rattle.sq_jumps.proofs.lone.remove_each.Goals as goal

pub redirect_each-requires : goal.redirect_each-requires
redirect_each-requires c = record { rules = together_rules c.args.row c.args.graph.now.graph c.args.blocks.now c.learn.ensures.rules c.requires.together }

pub loop-block-init : goal.loop-block-init
loop-block-init c = none_gone c.args.row c.args.graph.now.graph c.redirect_each.new.self.graph c.args.savings c.args.blocks.now c.learn.ensures.rules c.requires.canonical c.requires.together c.redirect_each.ensures.graph

pub remove-requires-clause-block : goal.remove-requires-clause-block
remove-requires-clause-block c =
    let goes = subst (Goes c.args.row c.args.graph.now.graph c.loop-block.graph.graph c.args.savings c.loop-block.after) (split_at_index c.args.blocks.now c.loop-block.block-index c.loop-block-test.true) c.loop-block.invariant in
    there c.args.row c.args.graph.now.graph c.loop-block.graph.graph c.args.savings c.loop-block.after (get_or c.args.blocks.now c.loop-block.block-index 0) (drop (c.loop-block.block-index + 1) c.args.blocks.now) goes

pub remove-requires-clause-rules : goal.remove-requires-clause-rules
remove-requires-clause-rules c =
    let goes = subst (Goes c.args.row c.args.graph.now.graph c.loop-block.graph.graph c.args.savings c.loop-block.after) (split_at_index c.args.blocks.now c.loop-block.block-index c.loop-block-test.true) c.loop-block.invariant in
    rules_left c.args.row c.args.graph.now.graph c.loop-block.graph.graph c.args.savings c.loop-block.after (get_or c.args.blocks.now c.loop-block.block-index 0) (drop (c.loop-block.block-index + 1) c.args.blocks.now) goes

pub count-after-requires : goal.count-after-requires
count-after-requires c =
    let goes = subst (Goes c.args.row c.args.graph.now.graph c.loop-block.graph.graph c.args.savings c.loop-block.after) (split_at_index c.args.blocks.now c.loop-block.block-index c.loop-block-test.true) c.loop-block.invariant in
    let fit = fits c.args.row c.args.graph.now.graph c.loop-block.graph.graph c.args.savings c.loop-block.after (get_or c.args.blocks.now c.loop-block.block-index 0) (drop (c.loop-block.block-index + 1) c.args.blocks.now) goes in
    omega (arith, c.requires.words, fit)

pub loop-block-preserved : goal.loop-block-preserved
loop-block-preserved c =
    let goes = subst (Goes c.args.row c.args.graph.now.graph c.loop-block.graph.graph c.args.savings c.loop-block.after) (split_at_index c.args.blocks.now c.loop-block.block-index c.loop-block-test.true) c.loop-block.invariant in
    one_gone c.args.row c.args.graph.now.graph c.loop-block.graph.graph c.args.savings c.loop-block.after (get_or c.args.blocks.now c.loop-block.block-index 0) (drop (c.loop-block.block-index + 1) c.args.blocks.now) goes c.count-after.result c.remove.new.self.graph c.count-after.ensures.value c.remove.ensures.graph

pub returns : goal.returns
returns c =
    let ends : drop c.loop-block.block-index c.args.blocks.now ≡ [] = drop_all c.loop-block.block-index c.args.blocks.now (omega (arith, c.loop-block-test.false)) in
    all_gone c.args.row c.args.graph.now.graph c.loop-block.graph.graph c.args.savings c.loop-block.after (subst (Goes c.args.row c.args.graph.now.graph c.loop-block.graph.graph c.args.savings c.loop-block.after) ends c.loop-block.invariant)
