use Rattle.std.proofs.Common.{◌+◌, ◌-◌, [], length, sym, ap, ◌∙◌, subst, arith}
use Rattle.sq_graph.specs.declared.item.Term.TheVariants.{Stop}
use Rattle.sq_graph.specs.Graph.{Graph}
use Rattle.sq_graph.specs.Blocks.{HasBlock, items_of}
use Rattle.sq_graph.specs.Rules.{IsGraph}
use Rattle.sq_graph.specs.Operations.{with_term, replaced}
use Rattle.sq_jumps.specs.UnreachedClear.{cleared}
use Rattle.sq_layout.proofs.Walks.{items_few}
use Rattle.sq_jumps.proofs.unreached.clear.clear.Goals as goal
use Rattle.sq_jumps.proofs.Totals.{total_by}
use Rattle.sq_jumps.proofs.UnreachedCleared.{emptied_rules, emptied_there, cleared_rules, cleared_there, cleared_total}

pub overflow_cast-count : goal.overflow_cast-count
overflow_cast-count c = let few = items_few c.args.graph.now.graph c.args.block c.learn.ensures.few in let is = ap length c.items.ensures in omega arith

pub replace-requires-clause-rules : goal.replace-requires-clause-rules
replace-requires-clause-rules c =
    subst (λ is. IsGraph (replaced c.args.graph.now.graph c.args.block 0 (length is) [])) (sym c.items.ensures) (emptied_rules c.args.graph.now.graph c.args.block c.learn.ensures.rules c.requires)

pub set_term-requires-clause-block : goal.set_term-requires-clause-block
set_term-requires-clause-block c =
    subst (λ (h : Graph). HasBlock h c.args.block) (sym c.replace.ensures.graph) (emptied_there c.args.graph.now.graph c.args.block (length c.items.result.now) c.args.block c.requires)

pub set_term-requires-clause-rules : goal.set_term-requires-clause-rules
set_term-requires-clause-rules c =
    subst (λ (h : Graph). IsGraph (with_term h c.args.block (Stop 0))) (sym c.replace.ensures.graph)
    (subst (λ is. IsGraph (with_term (replaced c.args.graph.now.graph c.args.block 0 (length is) []) c.args.block (Stop 0))) (sym c.items.ensures) (cleared_rules c.args.graph.now.graph c.args.block c.learn.ensures.rules c.requires))

graph_is : goal.returns-clause-graph
graph_is c = c.set_term.ensures.graph ∙ ap (λ (h : Graph). with_term h c.args.block (Stop 0)) c.replace.ensures.graph ∙ ap (λ is. with_term (replaced c.args.graph.now.graph c.args.block 0 (length is) []) c.args.block (Stop 0)) c.items.ensures

pub returns-clause-graph : goal.returns-clause-graph
returns-clause-graph c = graph_is c

pub returns-clause-blocks : goal.returns-clause-blocks
returns-clause-blocks c = λ n has. subst (λ (h : Graph). HasBlock h n) (sym (graph_is c)) (cleared_there c.args.graph.now.graph c.args.block n c.learn.ensures.rules has)

pub returns-clause-total : goal.returns-clause-total
returns-clause-total c =
    let g = c.args.graph.now.graph in
    let spare = c.args.graph.now.spare in
    total_by c.args.graph.now c.set_term.new.self (cleared g c.args.block) (record spare { items = spare.items + length (items_of g c.args.block) - 0 }) (graph_is c)
    (c.set_term.ensures.spare ∙ c.replace.ensures.spare ∙ ap (λ is. record spare { items = spare.items + length is - 0 }) c.items.ensures)
    (cleared_total g c.args.block spare c.requires)
