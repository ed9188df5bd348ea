use Rattle.std.proofs.Common.{◌-◌, ◌<◌, length, refl, sym, ap, ◌∙◌, subst, arith}
use Rattle.std.specs.List.{list_any}
use Rattle.sq_graph.specs.Graph.{Graph}
use Rattle.sq_graph.specs.Blocks.{HasBlock, items_of}
use Rattle.sq_layout.proofs.Walks.{items_few}
use Rattle.sq_outline.specs.InlineSteps.{inlined_if}
use Rattle.sq_outline.specs.Inlined.{is_call}
use Rattle.sq_outline.proofs.InlineSteps.{spread_at_none, partly, partly_begins, partly_there, step_back, back_there}
use Rattle.sq_outline.proofs.inline.inline_block.Goals as goal

pub returns-then-not-has_call-clause-graph : goal.returns-then-not-has_call-clause-graph
returns-then-not-has_call-clause-graph c =
    let g = c.args.graph.now.graph in
    sym (spread_at_none g c.args.procedure c.args.block (ap (list_any (is_call c.args.procedure)) (sym c.items.ensures) ∙ sym c.has_call.ensures ∙ c.if-not-has_call.true))

pub overflow_cast-count : goal.overflow_cast-count
overflow_cast-count c = let few = items_few c.args.graph.now.graph c.args.block c.learn.ensures.few in let is = ap length c.items-2.ensures in omega arith

pub loop-at-init : goal.loop-at-init
loop-at-init c =
    let g = c.args.graph.now.graph in
    let size = ap length c.items-2.ensures in
    record {
      within = omega (arith, size);
      graph = sym (ap (partly g c.args.procedure c.args.block) size ∙ partly_begins g c.args.procedure c.args.block);
      room = c.requires.room;
      total = refl;
    }

pub inline_at-requires-clause-block : goal.inline_at-requires-clause-block
inline_at-requires-clause-block c =
    subst (λ (h : Graph). HasBlock h c.args.block) (sym c.loop-at.invariant.graph) (partly_there c.args.graph.now.graph c.args.procedure c.args.block c.loop-at.at c.requires.block)

pub inline_at-requires-clause-there : goal.inline_at-requires-clause-there
inline_at-requires-clause-there c =
    subst (λ (h : Graph). c.loop-at.at - 1 < length (items_of h c.args.block)) (sym c.loop-at.invariant.graph)
    (back_there c.args.graph.now.graph c.args.procedure c.args.block c.loop-at.at c.requires.block c.loop-at-test.true c.loop-at.invariant.within)

pub loop-at-preserved : goal.loop-at-preserved
loop-at-preserved c =
    let g = c.args.graph.now.graph in
    record {
      within = omega (arith, c.loop-at.invariant.within);
      graph =
          c.inline_at.ensures.graph
          ∙ ap (λ (h : Graph). inlined_if h c.args.procedure c.args.block (c.loop-at.at - 1)) c.loop-at.invariant.graph
          ∙ step_back g c.args.procedure c.args.block c.loop-at.at c.requires.block c.loop-at-test.true c.loop-at.invariant.within;
      room = c.inline_at.ensures.room;
      total = c.inline_at.ensures.total ∙ c.loop-at.invariant.total;
    }
