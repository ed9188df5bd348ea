use Rattle.std.proofs.Common.{◌∙◌, ◌-◌, ◌++◌, sym, ap, length, arith, length-append}
use Rattle.sq_graph.specs.declared.fates.Fate.TheVariants.{Stays}
use Rattle.sq_graph.specs.Blocks.{procedure_body, items_of_bodies}
use Rattle.sq_graph.proofs.Settling.{has_link, staying_go, staying_fits, staying_stay}
use Rattle.sq_graph.proofs.fates.staying_bodies.Goals as goal

pub overflow_cast-body : goal.overflow_cast-body
overflow_cast-body c =
    let p = has_link _ c.link.result c.link.ensures in
    let body = c.body-body.ensures ∙ ap (λ o. procedure_body o) p.1 in
    omega (
      arith,
      c.requires.fits,
      c.args.items.now.ok.0,
      ap (λ is. length is) body,
      staying_fits c.loop-procedure.procedure Stays p.0 c.args.fates.now c.args.graph.now.graph.procedures c.args.items.now.items c.loop-procedure.items.items c.loop-procedure.bodies.items c.loop-procedure.invariant (omega (arith, c.requires.fates.many, c.loop-procedure-test.true, c.procedures-procedure-end.ensures)) p.1 (sym c.stays.ensures ∙ c.if-not-stays.false),
    )

pub loop-procedure-preserved-then-not-stays : goal.loop-procedure-preserved-then-not-stays
loop-procedure-preserved-then-not-stays c =
    staying_go c.loop-procedure.procedure Stays c.args.fates.now c.args.graph.now.graph.procedures c.args.items.now.items c.loop-procedure.items.items c.loop-procedure.bodies.items c.loop-procedure.invariant
    (omega (arith, c.requires.fates.many, c.loop-procedure-test.true, c.procedures-procedure-end.ensures)) (omega (arith, c.loop-procedure-test.true, c.procedures-procedure-end.ensures)) (sym c.stays.ensures ∙ c.if-not-stays.true)

pub loop-procedure-preserved : goal.loop-procedure-preserved
loop-procedure-preserved c =
    let p = has_link _ c.link.result c.link.ensures in
    let body = c.body-body.ensures ∙ ap (λ o. procedure_body o) p.1 in
    staying_stay c.loop-procedure.procedure Stays p.0 c.args.fates.now c.args.graph.now.graph.procedures c.args.items.now.items c.loop-procedure.items.items c.extend_from_slice.new.self.items c.loop-procedure.bodies.items c.push.new.self.items c.link.result (c.len.result - c.len-first.result) (length c.body-body.result.now) c.loop-procedure.invariant
    (omega (arith, c.requires.fates.many, c.loop-procedure-test.true, c.procedures-procedure-end.ensures)) p.1 (sym c.stays.ensures ∙ c.if-not-stays.false)
    (c.in_ok-extend_from_slice.ensures.items ∙ ap (λ is. c.loop-procedure.items.items ++ is) body) c.in_ok-push.ensures.items (sym p.2)
    (omega (arith, c.len.ensures, c.len-first.ensures, c.args.items.now.ok.0, c.loop-procedure.items.ok.0, ap (λ is. length is) c.loop-procedure.invariant.items_are, length-append c.args.items.now.items (items_of_bodies c.loop-procedure.invariant.done))) (ap (λ is. length is) body)
