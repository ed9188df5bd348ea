use Rattle.std.proofs.Common.{◌+◌, length, sym, ap, ◌∙◌, subst}
use Rattle.sq_graph.specs.Graph.{Graph}
use Rattle.sq_graph.specs.Blocks.{HasBlock, items_of}
use Rattle.sq_graph.specs.Rules.{IsGraph}
use Rattle.sq_graph.specs.Operations.{redirected, without_block}
use Rattle.sq_jumps.proofs.detour.remove_detour.Goals as goal
use Rattle.sq_jumps.proofs.Totals.{total_by, removed_spare}
use Rattle.sq_jumps.proofs.DetourApplied.{detour_to, detour_redirected, detour_there, detour_rules, detour_total}

pub redirect-requires : goal.redirect-requires
redirect-requires c =
    let g = c.args.graph.now.graph in
    let leads = detour_to g c.args.block c.requires.to c.in-Some.to c.requires.leads (sym c.jump_from.ensures ∙ c.in-Some.is) in
    record { rules = detour_redirected g c.args.block c.in-Some.to c.learn.ensures.rules leads }

pub remove-requires-clause-block : goal.remove-requires-clause-block
remove-requires-clause-block c =
    let g = c.args.graph.now.graph in
    let leads = detour_to g c.args.block c.requires.to c.in-Some.to c.requires.leads (sym c.jump_from.ensures ∙ c.in-Some.is) in
    subst (λ (h : Graph). HasBlock h c.args.block) (sym c.redirect.ensures.graph) (detour_there g c.args.block c.in-Some.to c.learn.ensures.rules leads)

pub remove-requires-clause-rules : goal.remove-requires-clause-rules
remove-requires-clause-rules c =
    let g = c.args.graph.now.graph in
    let leads = detour_to g c.args.block c.requires.to c.in-Some.to c.requires.leads (sym c.jump_from.ensures ∙ c.in-Some.is) in
    subst (λ (h : Graph). IsGraph (without_block h c.args.block)) (sym c.redirect.ensures.graph) (detour_rules g c.args.block c.in-Some.to c.learn.ensures.rules leads)

pub returns-clause-total : goal.returns-clause-total
returns-clause-total c =
    let g = c.args.graph.now.graph in
    let h = redirected g c.args.block c.in-Some.to in
    let spare = c.args.graph.now.spare in
    let leads = detour_to g c.args.block c.requires.to c.in-Some.to c.requires.leads (sym c.jump_from.ensures ∙ c.in-Some.is) in
    total_by c.args.graph.now c.remove.new.self (without_block h c.args.block) (record spare { blocks = spare.blocks + 1; items = spare.items + length (items_of h c.args.block) })
    (c.remove.ensures.graph ∙ ap (λ (k : Graph). without_block k c.args.block) c.redirect.ensures.graph)
    (c.remove.ensures.spare ∙ removed_spare c.redirect.new.self.spare spare (λ (k : Graph). length (items_of k c.args.block)) c.redirect.new.self.graph h c.redirect.ensures.spare c.redirect.ensures.graph)
    (detour_total g c.args.block c.in-Some.to c.learn.ensures.rules leads spare)
