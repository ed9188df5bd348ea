use Rattle.std.proofs.Common.{ℕ, Option, Some, length, refl, sym, ap, ◌∙◌, subst, arith}
use Rattle.sq_outline.proofs.WindowsBlocks.{AreLeft, all_called, rest_of, first_left, none_blocks, block_may, rest_is, behind_same, still_there, next_left}
use Rattle.sq_outline.proofs.windows.window.call_in_blocks.Goals as goal

pub loop-place-init : goal.loop-place-init
loop-place-init c = record {
  rules = c.learn.ensures.rules;
  left = first_left c.args.graph.now.graph c.args.procedure c.first.result (Some c.first.result) refl c.first.ensures c.requires;
  total = refl;
}

pub call_in_block-requires-clause-may : goal.call_in_block-requires-clause-may
call_in_block-requires-clause-may c =
    let g = c.loop-place.graph.graph in
    let result = all_called c.args.graph.now.graph c.args.procedure in
    block_may result c.args.procedure c.in-Some.block g c.loop-place.invariant.rules
    (subst (λ (q : Option ℕ). AreLeft (all_called c.args.graph.now.graph c.args.procedure) c.args.procedure q c.loop-place.graph.graph) c.in-Some.is c.loop-place.invariant.left)

pub next-place-requires : goal.next-place-requires
next-place-requires c =
    still_there (all_called c.args.graph.now.graph c.args.procedure) c.args.procedure c.in-Some.block c.loop-place.graph.graph c.loop-place.invariant.rules
    (subst (λ (q : Option ℕ). AreLeft (all_called c.args.graph.now.graph c.args.procedure) c.args.procedure q c.loop-place.graph.graph) c.in-Some.is c.loop-place.invariant.left)
    c.call_in_block.new.graph.graph c.call_in_block.ensures.graph c.learn-in-Some.ensures.rules

pub loop-place-smaller : goal.loop-place-smaller
loop-place-smaller c =
    let g = c.loop-place.graph.graph in
    let h = c.call_in_block.new.graph.graph in
    let result = all_called c.args.graph.now.graph c.args.procedure in
    let left = subst (λ (q : Option ℕ). AreLeft (all_called c.args.graph.now.graph c.args.procedure) c.args.procedure q c.loop-place.graph.graph) c.in-Some.is c.loop-place.invariant.left in
    let old = ap length (rest_is result c.args.procedure c.in-Some.block g c.loop-place.invariant.rules left) in
    let new = ap length (behind_same result c.args.procedure c.in-Some.block g c.loop-place.invariant.rules left h c.call_in_block.ensures.graph c.learn-in-Some.ensures.rules) in
    let was = ap (λ (q : Option ℕ). length (rest_of g q)) c.in-Some.is in
    let is = ap (λ (q : Option ℕ). length (rest_of h q)) c.next-place.ensures in
    omega (arith, old, new, was, is)

pub loop-place-preserved : goal.loop-place-preserved
loop-place-preserved c =
    let g = c.loop-place.graph.graph in
    let h = c.call_in_block.new.graph.graph in
    let result = all_called c.args.graph.now.graph c.args.procedure in
    let left = subst (λ (q : Option ℕ). AreLeft (all_called c.args.graph.now.graph c.args.procedure) c.args.procedure q c.loop-place.graph.graph) c.in-Some.is c.loop-place.invariant.left in
    record {
      rules = c.learn-in-Some.ensures.rules;
      left =
          subst (λ (q : Option ℕ). AreLeft (all_called c.args.graph.now.graph c.args.procedure) c.args.procedure q c.call_in_block.new.graph.graph) (sym c.next-place.ensures)
          (next_left result c.args.procedure c.in-Some.block g c.loop-place.invariant.rules left h c.call_in_block.ensures.graph c.learn-in-Some.ensures.rules);
      total = c.call_in_block.ensures.total ∙ c.loop-place.invariant.total;
    }

pub returns-clause-graph : goal.returns-clause-graph
returns-clause-graph c = sym (none_blocks (all_called c.args.graph.now.graph c.args.procedure) c.args.procedure c.loop-place.place c.loop-place.graph.graph c.loop-place.invariant.left c.in_default.is)
