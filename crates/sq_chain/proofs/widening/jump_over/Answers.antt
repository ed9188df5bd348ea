use Rattle.std.proofs.Common.{sym, ap, ◌∙◌, subst}
use Rattle.sq_isa.specs.declared.instructions.Cond.{Cond}
use Rattle.sq_graph.specs.declared.item.Term.TheVariants.{Jump, Branch}
use Rattle.sq_graph.specs.Graph.{Graph}
use Rattle.sq_graph.specs.Blocks.{HasBlock}
use Rattle.sq_graph.specs.Operations.{with_term, inserted_after}
use Rattle.sq_graph.specs.Rules.{IsGraph}
use Rattle.sq_lookup.proofs.Targets.{has_term}
use Rattle.sq_chain.proofs.OneMore.{still_there, put_rules, turned_rules, turned_is}
use Rattle.sq_chain.proofs.widening.jump_over.Goals as goal

pub insert_after-new-requires-clause-rules : goal.insert_after-new-requires-clause-rules
insert_after-new-requires-clause-rules c = λ name fresh.
    put_rules c.args.graph.now.graph name c.args.block c.args.next c.in-Branch.cond c.in-Branch.a c.in-Branch.b c.in-Branch.to c.learn.ensures.rules fresh c.in-Branch.ensures c.requires.slot

pub set_term-requires-clause-block : goal.set_term-requires-clause-block
set_term-requires-clause-block c =
    let g = c.args.graph.now.graph in
    subst (λ (k : Graph). HasBlock k c.args.block) (sym c.insert_after-new.ensures.graph)
    (still_there g c.insert_after-new.result c.args.block (Jump c.in-Branch.to) c.args.block (has_term g c.args.block (Branch c.in-Branch.cond c.in-Branch.a c.in-Branch.b c.in-Branch.to) c.in-Branch.ensures))

pub set_term-requires-clause-rules : goal.set_term-requires-clause-rules
set_term-requires-clause-rules c =
    let g = c.args.graph.now.graph in
    subst (λ (k : Graph). IsGraph (with_term k c.args.block (Branch c.inverse-cond.result c.in-Branch.a c.in-Branch.b c.args.next))) (sym c.insert_after-new.ensures.graph)
    (subst (λ (cond : Cond). IsGraph (with_term (inserted_after g c.insert_after-new.result c.args.block (Jump c.in-Branch.to)) c.args.block (Branch cond c.in-Branch.a c.in-Branch.b c.args.next))) (sym c.inverse-cond.ensures.condition)
    (turned_rules g c.insert_after-new.result c.args.block c.args.next c.in-Branch.cond c.in-Branch.a c.in-Branch.b c.in-Branch.to c.learn.ensures.rules c.insert_after-new.ensures.new c.in-Branch.ensures c.requires.slot))

pub returns-clause-graph : goal.returns-clause-graph
returns-clause-graph c =
    let g = c.args.graph.now.graph in
    c.set_term.ensures.graph
    ∙ ap (λ (k : Graph). with_term k c.args.block (Branch c.inverse-cond.result c.in-Branch.a c.in-Branch.b c.args.next)) c.insert_after-new.ensures.graph
    ∙ ap (λ (cond : Cond). with_term (inserted_after g c.insert_after-new.result c.args.block (Jump c.in-Branch.to)) c.args.block (Branch cond c.in-Branch.a c.in-Branch.b c.args.next)) c.inverse-cond.ensures.condition
    ∙ turned_is g c.insert_after-new.result c.args.block c.args.next c.in-Branch.cond c.in-Branch.a c.in-Branch.b c.in-Branch.to c.learn.ensures.rules c.insert_after-new.ensures.new c.in-Branch.ensures c.requires.slot
