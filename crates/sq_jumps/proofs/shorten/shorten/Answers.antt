use Rattle.std.proofs.Common.{◌+◌, ◌-◌, [], length, refl, sym, ap, ◌∙◌, subst, arith}
use Rattle.sq_graph.specs.Graph.{Graph}
use Rattle.sq_graph.specs.Blocks.{HasBlock}
use Rattle.sq_graph.specs.Rules.{IsGraph}
use Rattle.sq_graph.specs.Operations.{with_term, replaced}
use Rattle.law_patch.specs.Operations.{hastened as short_jump}
use Rattle.sq_layout.proofs.Walks.{items_few}
use Rattle.sq_jumps.proofs.shorten.shorten.Goals as goal
use Rattle.sq_jumps.proofs.Totals.{total_by}
use Rattle.sq_jumps.proofs.ShortenApplied.{shorten_has, shorten_to, shorten_dropped, shorten_there, shorten_rules, shorten_total}

pub overflow_cast-last : goal.overflow_cast-last
overflow_cast-last c = let few = items_few c.args.graph.now.graph c.args.block c.learn.ensures.few in let is = ap length c.items.ensures in omega arith

pub replace-requires-clause-rules : goal.replace-requires-clause-rules
replace-requires-clause-rules c =
    let g = c.args.graph.now.graph in
    let can = shorten_to g c.args.block c.requires.at (length c.items.result.now - 1) c.requires.link c.in-PartJump.link c.requires.part c.in-PartJump.part c.requires.to c.in-PartJump.to c.items.result.now c.requires.shortable c.items.ensures refl c.in-PartJump.ensures in
    shorten_dropped g c.args.block (length c.items.result.now - 1) c.in-PartJump.link c.in-PartJump.part c.in-PartJump.to c.learn.ensures.rules can

pub set_term-requires-clause-block : goal.set_term-requires-clause-block
set_term-requires-clause-block c =
    let g = c.args.graph.now.graph in
    let can = shorten_to g c.args.block c.requires.at (length c.items.result.now - 1) c.requires.link c.in-PartJump.link c.requires.part c.in-PartJump.part c.requires.to c.in-PartJump.to c.items.result.now c.requires.shortable c.items.ensures refl c.in-PartJump.ensures in
    subst (λ (h : Graph). HasBlock h c.args.block) (sym c.replace.ensures.graph)
    (shorten_there g c.args.block (length c.items.result.now - 1) c.in-PartJump.link c.in-PartJump.part c.in-PartJump.to c.learn.ensures.rules can c.args.block (shorten_has g c.args.block _ c.in-PartJump.link c.in-PartJump.part c.in-PartJump.to can))

pub set_term-requires-clause-rules : goal.set_term-requires-clause-rules
set_term-requires-clause-rules c =
    let g = c.args.graph.now.graph in
    let can = shorten_to g c.args.block c.requires.at (length c.items.result.now - 1) c.requires.link c.in-PartJump.link c.requires.part c.in-PartJump.part c.requires.to c.in-PartJump.to c.items.result.now c.requires.shortable c.items.ensures refl c.in-PartJump.ensures in
    subst (λ (h : Graph). IsGraph (with_term h c.args.block c.short_jump.result)) (sym c.replace.ensures.graph)
    (subst (λ t. IsGraph (with_term (replaced g c.args.block (length c.items.result.now - 1) 1 []) c.args.block t)) (sym c.short_jump.ensures)
    (shorten_rules g c.args.block (length c.items.result.now - 1) c.in-PartJump.link c.in-PartJump.part c.in-PartJump.to c.learn.ensures.rules can))

pub returns-clause-total : goal.returns-clause-total
returns-clause-total c =
    let g = c.args.graph.now.graph in
    let spare = c.args.graph.now.spare in
    let h = replaced g c.args.block (length c.items.result.now - 1) 1 [] in
    let can = shorten_to g c.args.block c.requires.at (length c.items.result.now - 1) c.requires.link c.in-PartJump.link c.requires.part c.in-PartJump.part c.requires.to c.in-PartJump.to c.items.result.now c.requires.shortable c.items.ensures refl c.in-PartJump.ensures in
    total_by c.args.graph.now c.set_term.new.self (with_term h c.args.block (short_jump c.in-PartJump.link c.in-PartJump.to)) (record spare { items = spare.items + 1 - 0 })
    (c.set_term.ensures.graph ∙ ap (λ (k : Graph). with_term k c.args.block c.short_jump.result) c.replace.ensures.graph ∙ ap (λ t. with_term h c.args.block t) c.short_jump.ensures)
    (c.set_term.ensures.spare ∙ c.replace.ensures.spare)
    (shorten_total g c.args.block (length c.items.result.now - 1) c.in-PartJump.link c.in-PartJump.part c.in-PartJump.to c.learn.ensures.rules can spare)
