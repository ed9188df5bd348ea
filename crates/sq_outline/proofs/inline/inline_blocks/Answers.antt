use Rattle.std.proofs.Common.{◌≡◌, ◌<◌, ℕ, Option, length, refl, sym, ap, ◌∙◌, subst}
use Rattle.sq_graph.specs.Graph.{Graph}
use Rattle.sq_graph.specs.Blocks.{named, HasBlock, items_of_blocks}
use Rattle.sq_graph.specs.Cursor.{IsPlace}
use Rattle.sq_layout.proofs.Walks.{blocks_from, starts}
use Rattle.sq_outline.specs.Inlined.{call_count, spread_all}
use Rattle.sq_outline.proofs.Spreading.{calls_in, spread_itself}
use Rattle.sq_outline.proofs.InlineSteps.{walk_on, still_named, block_sooner}
use Rattle.sq_outline.proofs.inline.inline_blocks.Goals as goal

pub loop-place-init : goal.loop-place-init
loop-place-init c =
    let first = rw c.first.ensures at (starts c.args.graph.now.graph.blocks) in
    record {
      rules = c.learn.ensures.rules;
      place = first.0;
      left = ap (λ bs. calls_in c.args.procedure (items_of_blocks bs)) (sym first.1);
      spread = refl;
      room = c.requires;
      total = refl;
    }

pub next-place-requires : goal.next-place-requires
next-place-requires c =
    let has : HasBlock c.loop-place.graph.graph c.in-Some.block = subst (IsPlace (named c.loop-place.graph.graph.blocks)) c.in-Some.is c.loop-place.invariant.place in
    subst (λ (h : Graph). HasBlock h c.in-Some.block) (sym c.inline_block.ensures.graph) (still_named c.loop-place.graph.graph c.args.procedure c.in-Some.block has)

pub loop-place-smaller : goal.loop-place-smaller
loop-place-smaller c =
    let h = c.loop-place.graph.graph in
    let k = c.inline_block.new.graph.graph in
    let behind = walk_on h k c.args.procedure c.in-Some.block c.loop-place.place c.loop-place.invariant.rules c.learn-in-Some.ensures.rules c.in-Some.is c.loop-place.invariant.place c.inline_block.ensures.graph c.loop-place.invariant.left in
    subst (λ (q : Option ℕ). length (blocks_from k.blocks q) < length (blocks_from h.blocks c.loop-place.place)) (sym c.next-place.ensures) behind.shorter

pub loop-place-preserved : goal.loop-place-preserved
loop-place-preserved c =
    let h = c.loop-place.graph.graph in
    let k = c.inline_block.new.graph.graph in
    let behind = walk_on h k c.args.procedure c.in-Some.block c.loop-place.place c.loop-place.invariant.rules c.learn-in-Some.ensures.rules c.in-Some.is c.loop-place.invariant.place c.inline_block.ensures.graph c.loop-place.invariant.left in
    record {
      rules = c.learn-in-Some.ensures.rules;
      place = subst (IsPlace (named k.blocks)) (sym c.next-place.ensures) behind.place;
      left = subst (λ (q : Option ℕ). call_count k c.args.procedure ≡ calls_in c.args.procedure (items_of_blocks (blocks_from k.blocks q))) (sym c.next-place.ensures) behind.left;
      spread =
          ap (λ (g : Graph). spread_all g c.args.procedure) c.inline_block.ensures.graph
          ∙ block_sooner h c.args.procedure c.in-Some.block c.loop-place.invariant.rules
          ∙ c.loop-place.invariant.spread;
      room = c.inline_block.ensures.room;
      total = c.inline_block.ensures.total ∙ c.loop-place.invariant.total;
    }

pub returns-clause-graph : goal.returns-clause-graph
returns-clause-graph c =
    let g = c.loop-place.graph.graph in
    let none : call_count c.loop-place.graph.graph c.args.procedure ≡ 0 =
    subst (λ (q : Option ℕ). call_count g c.args.procedure ≡ calls_in c.args.procedure (items_of_blocks (blocks_from g.blocks q))) c.in_default.is c.loop-place.invariant.left in
    sym (spread_itself g c.args.procedure none) ∙ c.loop-place.invariant.spread
