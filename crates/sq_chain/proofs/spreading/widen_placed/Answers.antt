use Rattle.std.proofs.Common.{◌≡◌, None, is_some, length, List, ◌+◌, refl, sym, ap, ◌∙◌, subst, arith}
use Rattle.sq_graph.specs.declared.item.Item.{Item}
use Rattle.sq_graph.specs.declared.item.Term.TheVariants.{Branch}
use Rattle.sq_graph.specs.Graph.{Graph}
use Rattle.sq_graph.specs.Blocks.{next_of}
use Rattle.sq_lookup.specs.Counts.{AreUses}
use Rattle.sq_chain.specs.Bare.{AreSolidBut, AreLed}
use Rattle.sq_chain.specs.Surveys.{IsPlaced, NoneFalls}
use Rattle.sq_chain.proofs.OneMore.{slot_after}
use Rattle.sq_chain.proofs.PassedOn.{added}
use Rattle.sq_chain.proofs.Spread.{wider_solid, wider_led, wider_uses, wider_few, wider_placed, wider_falls, placed_few}
use Rattle.sq_chain.proofs.spreading.widen_placed.Goals as goal

pub unreachable-requires-in_default-next : goal.unreachable-requires-in_default-next
unreachable-requires-in_default-next c =
    let some = slot_after c.args.graph.now.graph c.args.block (Branch c.in-Branch.cond c.in-Branch.a c.in-Branch.b c.in-Branch.to) c.learn.ensures.rules c.in-Branch.ensures refl in
    let none : next_of c.args.graph.now.graph c.args.block ≡ None = sym c.next.ensures ∙ c.in_default-next.is in
    let e = ap is_some none in
    cc

pub overflow_cast-words : goal.overflow_cast-words
overflow_cast-words c =
    let few = wider_few c.args.graph.now.graph 0 c.args.block 0 c.in-Branch.cond c.in-Branch.a c.in-Branch.b c.in-Branch.to c.in-Branch.ensures c.args.places.now c.requires.placed c.get-start.result c.get-start.ensures c.learn.ensures.few in
    omega (arith, few, ap length c.items.ensures)

pub overflow_add-words : goal.overflow_add-words
overflow_add-words c =
    let few = wider_few c.args.graph.now.graph 0 c.args.block 0 c.in-Branch.cond c.in-Branch.a c.in-Branch.b c.in-Branch.to c.in-Branch.ensures c.args.places.now c.requires.placed c.get-start.result c.get-start.ensures c.learn.ensures.few in
    omega (arith, few, ap length c.items.ensures)

pub returns-then-to-next-clause-solid : goal.returns-then-to-next-clause-solid
returns-then-to-next-clause-solid c = λ may solid.
    subst (λ (k : Graph). AreSolidBut may k) (sym c.jump_over-new.ensures.graph)
    (wider_solid c.args.graph.now.graph c.jump_over-new.result c.args.block c.in-Some.next c.in-Branch.cond c.in-Branch.a c.in-Branch.b c.in-Branch.to c.in-Branch.ensures may solid)

pub returns-then-to-next-clause-led : goal.returns-then-to-next-clause-led
returns-then-to-next-clause-led c = λ leads led.
    subst (λ (k : Graph). AreLed leads k) (sym c.jump_over-new.ensures.graph)
    (wider_led c.args.graph.now.graph c.jump_over-new.result c.args.block c.in-Some.next c.in-Branch.cond c.in-Branch.a c.in-Branch.b c.in-Branch.to c.in-Branch.ensures leads led)

pub put_behind-requires-clause-end : goal.put_behind-requires-clause-end
put_behind-requires-clause-end c =
    let few = wider_few c.args.graph.now.graph 0 c.args.block 0 c.in-Branch.cond c.in-Branch.a c.in-Branch.b c.in-Branch.to c.in-Branch.ensures c.args.places.now c.requires.placed c.get-start.result c.get-start.ensures c.learn.ensures.few in
    omega (arith, few, ap length c.items.ensures)

pub put_behind-requires-clause-few : goal.put_behind-requires-clause-few
put_behind-requires-clause-few c = placed_few c.args.graph.now.graph c.args.places.now c.requires.placed c.learn.ensures.few

pub returns-clause-solid : goal.returns-clause-solid
returns-clause-solid c = λ may solid.
    subst (λ (k : Graph). AreSolidBut may k) (sym c.jump_over-new.ensures.graph)
    (wider_solid c.args.graph.now.graph c.jump_over-new.result c.args.block c.in-Some.next c.in-Branch.cond c.in-Branch.a c.in-Branch.b c.in-Branch.to c.in-Branch.ensures may solid)

pub returns-clause-led : goal.returns-clause-led
returns-clause-led c = λ leads led.
    subst (λ (k : Graph). AreLed leads k) (sym c.jump_over-new.ensures.graph)
    (wider_led c.args.graph.now.graph c.jump_over-new.result c.args.block c.in-Some.next c.in-Branch.cond c.in-Branch.a c.in-Branch.b c.in-Branch.to c.in-Branch.ensures leads led)

pub returns-clause-uses : goal.returns-clause-uses
returns-clause-uses c = λ done.
    subst (λ (k : Graph). AreUses k c.add.new.self) (sym c.jump_over-new.ensures.graph)
    (wider_uses c.args.graph.now.graph c.jump_over-new.result c.args.block c.in-Some.next c.in-Branch.cond c.in-Branch.a c.in-Branch.b c.in-Branch.to c.in-Branch.ensures c.args.uses.now c.add.new.self c.requires.uses (added c.add.result c.add.ensures (sym c.is_err.ensures.value ∙ c.if-is_err.false)))

pub returns-clause-placed : goal.returns-clause-placed
returns-clause-placed c = λ done.
    subst (λ (k : Graph). IsPlaced k c.put_behind.new.places) (sym c.jump_over-new.ensures.graph)
    (wider_placed c.args.graph.now.graph c.jump_over-new.result c.args.block c.in-Some.next c.in-Branch.cond c.in-Branch.a c.in-Branch.b c.in-Branch.to c.in-Branch.ensures c.args.places.now c.requires.placed c.get-start.result c.get-start.ensures
    (length c.items.result.now + 1) c.put_behind.new.places c.jump_over-new.ensures.new (ap (λ (is : List Item). length is + 1) c.items.ensures) (c.put_behind.ensures.addresses done) (c.put_behind.ensures.words done) c.put_behind.ensures.branches)

pub returns-clause-falls : goal.returns-clause-falls
returns-clause-falls c = λ done falls.
    subst NoneFalls (sym c.jump_over-new.ensures.graph)
    (wider_falls c.args.graph.now.graph c.jump_over-new.result c.args.block c.in-Some.next c.in-Branch.cond c.in-Branch.a c.in-Branch.b c.in-Branch.to c.in-Branch.ensures (sym c.next.ensures ∙ c.in-Some.is) c.if-to-next.false falls)
