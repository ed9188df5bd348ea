use Rattle.std.proofs.Common.{◌≡◌, ℕ, ◌+◌, nat_eq, length, length-append, sym, ap, subst, arith, inl, inr}
use Rattle.std.specs.HashMap.{get}
use Rattle.std.specs.List.{All}
use Rattle.std.proofs.lemmas.Bool.{cases_lt}
use Rattle.sq_graph.specs.Blocks.{body_of, items_of_blocks, items_of_bodies}
use Rattle.sq_graph.specs.Rules.{ItemFits}
use Rattle.sq_outline.specs.RecalledNumbers.{IsNumberOf}
use Rattle.sq_outline.specs.Spans.{IsIn}
use Rattle.sq_outline.proofs.RecallNumbers.{items_fit, bodies_step, bodies_few, still_number}
use Rattle.sq_outline.proofs.windows.bodies.read_bodies.Goals as goal

pub body_number-requires-clause-fits : goal.body_number-requires-clause-fits
body_number-requires-clause-fits c =
    subst (λ is. All ItemFits is) (sym c.body.ensures) (items_fit c.args.graph.now.graph c.learn.ensures.rules c.loop-procedure.procedure)

pub body_number-requires-clause-few : goal.body_number-requires-clause-few
body_number-requires-clause-few c =
    let g = c.args.graph.now.graph in
    let q = c.loop-procedure.procedure in
    let here = ap length c.body.ensures in
    let small = c.learn.ensures.small in
    omega (arith, here, small.items, c.loop-procedure.invariant.few, bodies_step g.procedures q (omega arith), bodies_few g.procedures (q + 1), length-append (items_of_blocks g.blocks) (items_of_bodies g.procedures))

pub loop-procedure-preserved : goal.loop-procedure-preserved
loop-procedure-preserved c =
    let g = c.args.graph.now.graph in
    let q = c.loop-procedure.procedure in
    let old = c.loop-procedure.pairs.keys in
    let new = c.body_number.new.pairs.keys in
    let ends = get nat_eq c.note.new.spans in
    let grown = c.in_ok-number.ensures.grown in
    let few = grown.few in
    let link : c.from_low_bits.result ≡ 0 = c.from_low_bits.ensures in
    let own : IsNumberOf new c.in_ok-number.number 0 c.body.result.now = subst (λ l. IsNumberOf new c.in_ok-number.number l c.body.result.now) link c.in_ok-number.ensures.number in
    let number : IsNumberOf new c.in_ok-number.number 0 (body_of g q) = subst (λ is. IsNumberOf new c.in_ok-number.number 0 is) c.body.ensures own in
    record {
      few = omega (arith, few, ap length c.body.ensures, c.loop-procedure.invariant.few, bodies_step g.procedures q (omega arith));
      once = grown.once c.loop-procedure.invariant.once;
      each = λ p below.
          elim (cases_lt p q) [
            | inl earlier ↦
                let own = c.loop-procedure.invariant.each p earlier in
                (own.0, still_number (length c.body.result.now) old new own.0 0 (body_of g p) grown own.1, c.in_ok-note.ensures.others own.0 p own.2)
            | inr later ↦
                let same : q ≡ p = omega (arith, below, later) in
                subst (λ r. (n : ℕ) × IsNumberOf new n 0 (body_of g r) × IsIn (ends n) r) same (c.in_ok-number.number, number, subst (λ n. IsIn (ends n) q) c.from.ensures c.in_ok-note.ensures.here)
          ];
    }
