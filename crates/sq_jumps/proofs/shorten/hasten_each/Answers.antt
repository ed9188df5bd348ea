use Rattle.std.proofs.Common.{◌≡◌, ◌+◌, ◌∷◌, drop, get_or, sym, ap, ◌∙◌, subst, add-one, drop-cons}
use Rattle.std.specs.List.{All}
use Rattle.std.proofs.lemmas.List.Elements.{All-rest, All-weaker}
use Rattle.sq_graph.specs.Graph.{Graph}
use Rattle.sq_graph.specs.Blocks.{HasBlock}
use Rattle.sq_jumps.specs.Shorten.{hastened_at, hastened_each}
use Rattle.sq_jumps.proofs.shorten.hasten_each.Goals as goal
use Rattle.sq_jumps.proofs.ShortenSwept.{hastened_there}

pub loop-block-preserved : goal.loop-block-preserved
loop-block-preserved c =
    let g = c.loop-block.graph.graph in
    let block = get_or c.args.blocks.now c.loop-block.block-index 0 in
    let rest = drop (c.loop-block.block-index + 1) c.args.blocks.now in
    let next : drop c.loop-block.block-index c.args.blocks.now ≡ block ∷ rest = rw add-one (drop-cons c.args.blocks.now c.loop-block.block-index 0 c.loop-block-test.true) in
    record {
      same = c.loop-block.invariant.same ∙ ap (λ blocks. hastened_each blocks g) next ∙ ap (hastened_each rest) (sym c.hasten.ensures);
      there =
          subst (λ (h : Graph). All (HasBlock h) rest) (sym c.hasten.ensures)
          (All-weaker (HasBlock g) (HasBlock (hastened_at g block)) (hastened_there g block) rest (All-rest (HasBlock g) block rest (drop c.loop-block.block-index c.args.blocks.now) next c.loop-block.invariant.there));
    }
