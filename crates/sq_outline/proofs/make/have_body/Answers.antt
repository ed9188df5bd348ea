use Rattle.std.proofs.Common.{◌≤◌, ℕ, List, length, refl, subst, arith}
use Rattle.std.specs.List.{All}
use Rattle.std.proofs.lemmas.List.{take_all}
use Rattle.sq_graph.specs.Blocks.{items_of}
use Rattle.sq_outline.specs.Made.{HasBody}
use Rattle.sq_outline.proofs.Early.{one_more}
use Rattle.sq_outline.proofs.make.have_body.Goals as goal

pub loop-block-preserved : goal.loop-block-preserved
loop-block-preserved c =
    let g = c.args.graph.now.graph in
    one_more (HasBody g (items_of g c.args.first)) c.args.blocks.now c.loop-block.block-index 0 c.loop-block-test.true c.loop-block.invariant (c.has_body.ensures.0 c.if-not-has_body.false)

pub returns : goal.returns
returns c =
    let g = c.args.graph.now.graph in
    let past : length c.args.blocks.now ≤ c.loop-block.block-index = omega arith in (
      λ yes. subst (λ (blocks : List ℕ). All (HasBody g (items_of g c.args.first)) blocks) (take_all c.loop-block.block-index c.args.blocks.now past) c.loop-block.invariant,
      λ all. refl,
    )
