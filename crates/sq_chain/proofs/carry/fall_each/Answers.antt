use Rattle.std.proofs.Common.{ℕ, Option, length, sym, ap, subst, arith}
use Rattle.sq_graph.specs.declared.item.Term.TheVariants.{Fall}
use Rattle.sq_graph.specs.Graph.{Graph}
use Rattle.sq_graph.specs.Blocks.{named}
use Rattle.sq_graph.specs.Cursor.{rest_from}
use Rattle.sq_graph.specs.Operations.{with_term}
use Rattle.sq_graph.specs.Words.{words_of}
use Rattle.law_patch.proofs.Saving.{fall_saves}
use Rattle.sq_chain.specs.Moves.{JumpsToNext}
use Rattle.sq_chain.proofs.Fallen.{FallsFrom, falls_from_first, falls_to_end, falls_has, falls_next, falls_past, next_left, past_left}
use Rattle.sq_chain.proofs.carry.fall_each.Goals as goal

pub loop-place-init : goal.loop-place-init
loop-place-init c = record {
  from = falls_from_first c.args.graph.now.graph c.first.result c.learn.ensures.rules c.first.ensures;
  words = omega arith;
}

pub next-place-requires : goal.next-place-requires
next-place-requires c =
    let g = c.args.graph.now.graph in
    let h = c.loop-place.graph.graph in
    falls_has g h c.in-Some.block (subst (FallsFrom g h) c.in-Some.is c.loop-place.invariant.from)

pub jumps_to_next-requires : goal.jumps_to_next-requires
jumps_to_next-requires c =
    let g = c.args.graph.now.graph in
    let h = c.loop-place.graph.graph in
    falls_has g h c.in-Some.block (subst (FallsFrom g h) c.in-Some.is c.loop-place.invariant.from)

pub set_term-requires-clause-rules : goal.set_term-requires-clause-rules
set_term-requires-clause-rules c =
    let g = c.args.graph.now.graph in
    let h = c.loop-place.graph.graph in
    let jumps = c.jumps_to_next.ensures.0 c.if-jumps_to_next.true in
    (falls_next g h c.in-Some.block (subst (FallsFrom g h) c.in-Some.is c.loop-place.invariant.from) jumps).so_far.keeps.rules

pub loop-place-smaller-then-jumps_to_next : goal.loop-place-smaller-then-jumps_to_next
loop-place-smaller-then-jumps_to_next c =
    let g = c.args.graph.now.graph in
    let h = c.loop-place.graph.graph in
    let n = c.in-Some.block in
    let jumps = c.jumps_to_next.ensures.0 c.if-jumps_to_next.true in
    let left = next_left g h n (subst (FallsFrom g h) c.in-Some.is c.loop-place.invariant.from) jumps in
    let new = ap (λ (k : Graph). length (rest_from (named k.blocks) c.next-place.result)) c.set_term.ensures.graph in
    let slot = ap (λ (o : Option ℕ). length (rest_from (named (with_term h n Fall).blocks) o)) c.next-place.ensures in
    let old = ap (λ (o : Option ℕ). length (rest_from (named h.blocks) o)) c.in-Some.is in
    omega (arith, left, new, slot, old)

pub loop-place-preserved-then-jumps_to_next : goal.loop-place-preserved-then-jumps_to_next
loop-place-preserved-then-jumps_to_next c =
    let g = c.args.graph.now.graph in
    let h = c.loop-place.graph.graph in
    let n = c.in-Some.block in
    let jumps = c.jumps_to_next.ensures.0 c.if-jumps_to_next.true in
    let next = falls_next g h n (subst (FallsFrom g h) c.in-Some.is c.loop-place.invariant.from) jumps in
    let one = fall_saves h n jumps.to jumps.jump in
    let words = c.loop-place.invariant.words in
    record {
      from = subst (λ (k : Graph). FallsFrom g k c.next-place.result) (sym c.set_term.ensures.graph) (subst (FallsFrom g (with_term h n Fall)) (sym c.next-place.ensures) next);
      words = omega (arith, ap words_of c.set_term.ensures.graph, one, words);
    }

pub loop-place-smaller : goal.loop-place-smaller
loop-place-smaller c =
    let g = c.args.graph.now.graph in
    let h = c.loop-place.graph.graph in
    let n = c.in-Some.block in
    let other : ¬ JumpsToNext h n = λ jumps. let yes = c.jumps_to_next.ensures.1 jumps in let no = c.if-jumps_to_next.false in cc in
    let left = past_left g h n (subst (FallsFrom g h) c.in-Some.is c.loop-place.invariant.from) other in
    let slot = ap (λ (o : Option ℕ). length (rest_from (named h.blocks) o)) c.next-place.ensures in
    let old = ap (λ (o : Option ℕ). length (rest_from (named h.blocks) o)) c.in-Some.is in
    omega (arith, left, slot, old)

pub loop-place-preserved : goal.loop-place-preserved
loop-place-preserved c =
    let g = c.args.graph.now.graph in
    let h = c.loop-place.graph.graph in
    let n = c.in-Some.block in
    let other : ¬ JumpsToNext h n = λ jumps. let yes = c.jumps_to_next.ensures.1 jumps in let no = c.if-jumps_to_next.false in cc in
    record {
      from = subst (FallsFrom g h) (sym c.next-place.ensures) (falls_past g h n (subst (FallsFrom g h) c.in-Some.is c.loop-place.invariant.from) other);
      words = c.loop-place.invariant.words;
    }

pub returns-clause-graph : goal.returns-clause-graph
returns-clause-graph c =
    let g = c.args.graph.now.graph in
    let h = c.loop-place.graph.graph in
    falls_to_end g h (subst (FallsFrom g h) c.in_default.is c.loop-place.invariant.from)

pub returns-clause-follows : goal.returns-clause-follows
returns-clause-follows c = c.loop-place.invariant.from.so_far.keeps.follows

pub returns-clause-sound : goal.returns-clause-sound
returns-clause-sound c = c.loop-place.invariant.from.so_far.keeps.sound
