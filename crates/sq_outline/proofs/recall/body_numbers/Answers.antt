use Rattle.std.proofs.Common.{◌≡◌, ◌+◌, ◌++◌, [], ◌∷◌, Some, length, length-append, sym, ap, ◌∙◌, subst, arith}
use Rattle.std.specs.List.{All}
use Rattle.sq_graph.specs.Blocks.{items_of_blocks, items_of_bodies}
use Rattle.sq_graph.specs.Rules.{ItemFits}
use Rattle.sq_outline.specs.RecalledNumbers.{IsNumberOf}
use Rattle.sq_outline.proofs.RecallNumbers.{items_fit, bodies_step, bodies_few, numbered_more, all_numbered}
use Rattle.sq_outline.proofs.recall.body_numbers.Goals as goal

pub body_number-requires-clause-fits : goal.body_number-requires-clause-fits
body_number-requires-clause-fits c =
    subst (λ is. All ItemFits is) (sym c.body.ensures) (items_fit c.args.graph.now.graph c.requires.rules c.loop-procedure.procedure)

pub body_number-requires-clause-few : goal.body_number-requires-clause-few
body_number-requires-clause-few c =
    let g = c.args.graph.now.graph in
    let q = c.loop-procedure.procedure in
    let here = ap length c.body.ensures in
    let small = c.learn.ensures.small in
    omega (arith, here, small.items, c.loop-procedure.invariant.few, bodies_step g.procedures q (omega arith), bodies_few g.procedures (q + 1), length-append (items_of_blocks g.blocks) (items_of_bodies g.procedures))

pub loop-procedure-preserved : goal.loop-procedure-preserved
loop-procedure-preserved c =
    let g = c.args.graph.now.graph in
    let q = c.loop-procedure.procedure in
    let grown = c.in_ok-number.ensures.grown in
    let few = grown.few in
    let pushed : c.push.new.self.items ≡ c.loop-procedure.numbers.items ++ Some c.in_ok-number.number ∷ [] = c.in_ok-push.ensures.items in
    record {
      many = omega (arith, ap length pushed, length-append c.loop-procedure.numbers.items (Some c.in_ok-number.number ∷ []), c.loop-procedure.invariant.many);
      few = omega (arith, few, ap length c.body.ensures, c.loop-procedure.invariant.few, bodies_step g.procedures q (omega arith));
      once = grown.once c.loop-procedure.invariant.once;
      numbered = numbered_more g (length c.body.result.now) c.loop-procedure.pairs.keys c.body_number.new.pairs.keys c.loop-procedure.numbers.items c.push.new.self.items q c.in_ok-number.number c.link.result grown pushed c.loop-procedure.invariant.many c.link.ensures c.in_ok-number.ensures.register
          (subst (λ is. IsNumberOf c.body_number.new.pairs.keys c.in_ok-number.number c.link.result is) c.body.ensures c.in_ok-number.ensures.number)
          c.loop-procedure.invariant.numbered;
    }

pub returns : goal.returns
returns c =
    let g = c.args.graph.now.graph in
    let all : length g.procedures ≡ c.loop-procedure.procedure = omega (arith, c.loop-procedure-test.false, c.loop-procedure.auto.procedure-end, c.procedures-procedure-end.ensures) in
    all_numbered c.loop-procedure.pairs.keys g c.loop-procedure.numbers.items c.loop-procedure.invariant.once (items_fit g c.requires.rules)
    (c.loop-procedure.invariant.many ∙ sym all)
    (λ p below. c.loop-procedure.invariant.numbered p (omega (arith, below, all)))
