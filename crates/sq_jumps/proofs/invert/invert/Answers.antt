use Rattle.std.proofs.Common.{◌+◌, length, sym, ap, ◌∙◌, subst}
use Rattle.sq_graph.specs.declared.item.Term.TheVariants.{Branch}
use Rattle.sq_graph.specs.Graph.{Graph}
use Rattle.sq_graph.specs.Blocks.{HasBlock, items_of}
use Rattle.sq_graph.specs.Rules.{IsGraph}
use Rattle.sq_graph.specs.Operations.{with_term, without_block}
use Rattle.sq_jumps.proofs.invert.invert.Goals as goal
use Rattle.sq_jumps.proofs.Totals.{total_by, removed_spare}
use Rattle.sq_jumps.proofs.InvertApplied.{invert_to, invert_turned, invert_over_there, invert_rules, invert_total}

pub set_term-requires-clause-rules : goal.set_term-requires-clause-rules
set_term-requires-clause-rules c =
    let g = c.args.graph.now.graph in
    let j = invert_to g c.args.block c.requires.cond c.in-Branch.cond c.requires.a c.in-Branch.a c.requires.b c.in-Branch.b c.requires.over c.in-Some.over c.requires.behind c.in-Branch.to c.requires.to c.in-Some-jump_from.to c.requires.jumped c.in-Branch.ensures (sym c.next.ensures ∙ c.in-Some.is) (sym c.jump_from.ensures ∙ c.in-Some-jump_from.is) in
    invert_turned g c.args.block c.in-Branch.cond c.in-Branch.a c.in-Branch.b c.in-Some.over c.in-Branch.to c.in-Some-jump_from.to c.inverse-cond.result c.learn.ensures.rules j

pub remove-requires-clause-block : goal.remove-requires-clause-block
remove-requires-clause-block c =
    let g = c.args.graph.now.graph in
    let j = invert_to g c.args.block c.requires.cond c.in-Branch.cond c.requires.a c.in-Branch.a c.requires.b c.in-Branch.b c.requires.over c.in-Some.over c.requires.behind c.in-Branch.to c.requires.to c.in-Some-jump_from.to c.requires.jumped c.in-Branch.ensures (sym c.next.ensures ∙ c.in-Some.is) (sym c.jump_from.ensures ∙ c.in-Some-jump_from.is) in
    subst (λ (h : Graph). HasBlock h c.in-Some.over) (sym c.set_term.ensures.graph)
    (invert_over_there g c.args.block c.in-Branch.cond c.in-Branch.a c.in-Branch.b c.in-Some.over c.in-Branch.to c.in-Some-jump_from.to c.inverse-cond.result c.learn.ensures.rules j)

pub remove-requires-clause-rules : goal.remove-requires-clause-rules
remove-requires-clause-rules c =
    let g = c.args.graph.now.graph in
    let j = invert_to g c.args.block c.requires.cond c.in-Branch.cond c.requires.a c.in-Branch.a c.requires.b c.in-Branch.b c.requires.over c.in-Some.over c.requires.behind c.in-Branch.to c.requires.to c.in-Some-jump_from.to c.requires.jumped c.in-Branch.ensures (sym c.next.ensures ∙ c.in-Some.is) (sym c.jump_from.ensures ∙ c.in-Some-jump_from.is) in
    subst (λ (h : Graph). IsGraph (without_block h c.in-Some.over)) (sym c.set_term.ensures.graph)
    (invert_rules g c.args.block c.in-Branch.cond c.in-Branch.a c.in-Branch.b c.in-Some.over c.in-Branch.to c.in-Some-jump_from.to c.inverse-cond.result c.learn.ensures.rules j)

pub returns-clause-total : goal.returns-clause-total
returns-clause-total c =
    let g = c.args.graph.now.graph in
    let over = c.in-Some.over in
    let h = with_term g c.args.block (Branch c.inverse-cond.result c.in-Branch.a c.in-Branch.b c.in-Some-jump_from.to) in
    let spare = c.args.graph.now.spare in
    let j = invert_to g c.args.block c.requires.cond c.in-Branch.cond c.requires.a c.in-Branch.a c.requires.b c.in-Branch.b c.requires.over c.in-Some.over c.requires.behind c.in-Branch.to c.requires.to c.in-Some-jump_from.to c.requires.jumped c.in-Branch.ensures (sym c.next.ensures ∙ c.in-Some.is) (sym c.jump_from.ensures ∙ c.in-Some-jump_from.is) in
    total_by c.args.graph.now c.remove.new.self (without_block h over) (record spare { blocks = spare.blocks + 1; items = spare.items + length (items_of h over) })
    (c.remove.ensures.graph ∙ ap (λ (k : Graph). without_block k over) c.set_term.ensures.graph)
    (c.remove.ensures.spare ∙ removed_spare c.set_term.new.self.spare spare (λ (k : Graph). length (items_of k over)) c.set_term.new.self.graph h c.set_term.ensures.spare c.set_term.ensures.graph)
    (invert_total g c.args.block c.in-Branch.cond c.in-Branch.a c.in-Branch.b over c.in-Branch.to c.in-Some-jump_from.to c.inverse-cond.result c.learn.ensures.rules j spare)
