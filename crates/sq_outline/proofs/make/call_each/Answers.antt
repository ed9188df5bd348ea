use Rattle.std.proofs.Common.{◌+◌, drop, get_or, sym, ap, ◌∙◌, subst}
use Rattle.std.proofs.lemmas.List.Elements.{All-head}
use Rattle.sq_graph.specs.Graph.{Graph}
use Rattle.sq_outline.specs.Made.{starts_of}
use Rattle.sq_outline.specs.Sites.{MatchesAt, MayCallEach, called_each}
use Rattle.sq_outline.proofs.Early.{left_at}
use Rattle.sq_outline.proofs.Standing.{next_calls}
use Rattle.sq_outline.proofs.make.call_each.Goals as goal

pub call-requires-clause-matching : goal.call-requires-clause-matching
call-requires-clause-matching c =
    let g = c.loop-block.graph.graph in
    let blocks = c.args.blocks.now in
    let i = c.loop-block.block-index in
    let split = left_at blocks i 0 c.loop-block-test.true in
    let may = subst (λ bs. MayCallEach g (starts_of bs) c.args.procedure) split c.loop-block.invariant.may in
    All-head (MatchesAt g c.args.procedure) (record { block = get_or blocks i 0; at = 0 }) (starts_of (drop (i + 1) blocks)) may.matching

pub loop-block-preserved : goal.loop-block-preserved
loop-block-preserved c =
    let g = c.loop-block.graph.graph in
    let q = c.args.procedure in
    let blocks = c.args.blocks.now in
    let i = c.loop-block.block-index in
    let split = left_at blocks i 0 c.loop-block-test.true in
    let may = subst (λ bs. MayCallEach g (starts_of bs) c.args.procedure) split c.loop-block.invariant.may in
    let rest = starts_of (drop (i + 1) blocks) in
    record {
      may = subst (λ (h : Graph). MayCallEach h rest q) (sym c.call.ensures.graph) (next_calls g (record { block = get_or blocks i 0; at = 0 }) rest q c.learn.ensures.rules may);
      same = c.loop-block.invariant.same ∙ ap (λ bs. called_each (starts_of bs) q g) split ∙ ap (λ (h : Graph). called_each rest q h) (sym c.call.ensures.graph);
      total = c.call.ensures.total ∙ c.loop-block.invariant.total;
    }
