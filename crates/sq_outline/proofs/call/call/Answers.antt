use Rattle.std.proofs.Common.{◌+◌, ◌-◌, [], ◌∷◌, length, sym, ap, ◌∙◌, subst, arith}
use Rattle.sq_graph.specs.declared.item.Item.TheVariants.{Out}
use Rattle.sq_graph.specs.Blocks.{body_of}
use Rattle.sq_graph.specs.Operations.{replaced}
use Rattle.sq_graph.specs.Rules.{IsGraph}
use Rattle.law_patch.specs.Calls.{called_there}
use Rattle.sq_layout.proofs.Walks.{items_few}
use Rattle.sq_outline.proofs.Standing.{still_rules}
use Rattle.sq_outline.proofs.Totals.{total_by, replaced_total}
use Rattle.sq_outline.proofs.call.call.Goals as goal

pub overflow_cast-count : goal.overflow_cast-count
overflow_cast-count c =
    let few = items_few c.args.graph.now.graph c.args.block c.learn.ensures.few in
    let within = c.requires.matching.within in
    let is = ap length c.body.ensures in
    omega arith

pub replace-requires-clause-rules : goal.replace-requires-clause-rules
replace-requires-clause-rules c =
    let g = c.args.graph.now.graph in
    subst (λ is. IsGraph (replaced g c.args.block c.args.at (length is) (Out c.args.procedure ∷ []))) (sym c.body.ensures)
    (still_rules g (record { block = c.args.block; at = c.args.at }) c.args.procedure c.learn.ensures.rules c.requires.matching)

pub returns-clause-total : goal.returns-clause-total
returns-clause-total c =
    let g = c.args.graph.now.graph in
    let spare = c.args.graph.now.spare in
    let some = c.requires.some in
    total_by c.args.graph.now c.replace.new.self (called_there g c.args.block c.args.at c.args.procedure) (record spare { items = spare.items + length (body_of g c.args.procedure) - 1 })
    (c.replace.ensures.graph ∙ ap (λ is. replaced g c.args.block c.args.at (length is) (Out c.args.procedure ∷ [])) c.body.ensures)
    (c.replace.ensures.spare ∙ ap (λ is. record spare { items = spare.items + length is - 1 }) c.body.ensures)
    (replaced_total g c.args.block c.args.at (length (body_of g c.args.procedure)) (Out c.args.procedure ∷ []) spare c.requires.matching.block_there c.requires.matching.within (omega arith))
