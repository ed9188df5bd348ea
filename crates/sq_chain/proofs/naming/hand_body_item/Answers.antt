use Rattle.std.proofs.Common.{◌≡◌, ◌<◌, List, length, get_or, sym, ap, ◌∙◌, subst, arith}
use Rattle.sq_graph.specs.declared.item.Item.{Item}
use Rattle.sq_graph.specs.Blocks.{body_of}
use Rattle.sq_graph.specs.Graph.{Graph}
use Rattle.sq_lookup.specs.Counts.{AreUses}
use Rattle.sq_chain.specs.Passing.{IsHandedOn}
use Rattle.sq_chain.proofs.HandedBodies.{body_handed, body_rules, body_counted, body_uses_are}
use Rattle.sq_chain.proofs.PassedOn.{added}
use Rattle.sq_chain.proofs.naming.hand_body_item.Goals as goal

pub take_item-requires : goal.take_item-requires
take_item-requires c =
    let g = c.args.graph.now.graph in
    let old = c.index-items-at.result in
    let within : c.args.at < length (body_of c.args.graph.now.graph c.args.procedure) = omega (arith, c.if-items-at.false, ap length c.body-items.ensures) in
    let here : old ≡ get_or (body_of c.args.graph.now.graph c.args.procedure) c.args.at old = c.index-items-at.is ∙ ap (λ (is : List Item). get_or is c.args.at old) c.body-items.ensures in
    body_counted g c.args.procedure c.args.at c.args.bare c.args.next old c.in-Some.new within here c.in-Some.ensures c.args.uses.now c.add_item.new.self c.requires.uses (added c.add_item.result c.add_item.ensures (sym c.is_err.ensures.value ∙ c.if-is_err.false))

pub set_body_item-requires-clause-rules : goal.set_body_item-requires-clause-rules
set_body_item-requires-clause-rules c =
    let g = c.args.graph.now.graph in
    let old = c.index-items-at.result in
    let within : c.args.at < length (body_of c.args.graph.now.graph c.args.procedure) = omega (arith, c.if-items-at.false, ap length c.body-items.ensures) in
    let here : old ≡ get_or (body_of c.args.graph.now.graph c.args.procedure) c.args.at old = c.index-items-at.is ∙ ap (λ (is : List Item). get_or is c.args.at old) c.body-items.ensures in
    body_rules g c.args.procedure c.args.at c.args.bare c.args.next old c.in-Some.new within here c.in-Some.ensures c.learn.ensures.rules c.requires.next

pub returns-clause-handed : goal.returns-clause-handed
returns-clause-handed c =
    let g = c.args.graph.now.graph in
    let old = c.index-items-at.result in
    let within : c.args.at < length (body_of c.args.graph.now.graph c.args.procedure) = omega (arith, c.if-items-at.false, ap length c.body-items.ensures) in
    let here : old ≡ get_or (body_of c.args.graph.now.graph c.args.procedure) c.args.at old = c.index-items-at.is ∙ ap (λ (is : List Item). get_or is c.args.at old) c.body-items.ensures in
    subst (λ (k : Graph). IsHandedOn c.args.bare c.args.next c.args.graph.now.graph k) (sym c.set_body_item.ensures.graph)
    (body_handed g c.args.procedure c.args.at c.args.bare c.args.next old c.in-Some.new within here c.in-Some.ensures)

pub returns-clause-uses : goal.returns-clause-uses
returns-clause-uses c = λ done.
    let g = c.args.graph.now.graph in
    let old = c.index-items-at.result in
    let within : c.args.at < length (body_of c.args.graph.now.graph c.args.procedure) = omega (arith, c.if-items-at.false, ap length c.body-items.ensures) in
    let here : old ≡ get_or (body_of c.args.graph.now.graph c.args.procedure) c.args.at old = c.index-items-at.is ∙ ap (λ (is : List Item). get_or is c.args.at old) c.body-items.ensures in
    subst (λ (k : Graph). AreUses k c.take_item.new.self) (sym c.set_body_item.ensures.graph)
    (body_uses_are g c.args.procedure c.args.at c.args.bare c.args.next old c.in-Some.new within here c.in-Some.ensures c.args.uses.now c.add_item.new.self c.requires.uses (added c.add_item.result c.add_item.ensures (sym c.is_err.ensures.value ∙ c.if-is_err.false)) c.take_item.new.self c.take_item.ensures)
