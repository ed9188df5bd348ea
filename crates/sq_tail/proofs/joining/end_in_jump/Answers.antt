use Rattle.std.proofs.Common.{[], length, sym, ap, ◌∙◌, subst, arith}
use Rattle.sq_graph.specs.Blocks.{HasBlock, term_of}
use Rattle.sq_graph.specs.Graph.{Graph}
use Rattle.sq_graph.specs.Operations.{with_term, replaced}
use Rattle.sq_graph.specs.Rules.{IsGraph}
use Rattle.sq_graph.specs.declared.item.Term.TheVariants.{Jump}
use Rattle.sq_tail.proofs.Sizes.{few_items}
use Rattle.sq_tail.proofs.Merging.{cut_rules, cut_there, jump_rules, merged_term}
use Rattle.sq_tail.proofs.Totals.{total_by, total_through, term_total, cut_total}
use Rattle.sq_tail.proofs.joining.end_in_jump.Goals as goal

pub overflow_cast-count : goal.overflow_cast-count
overflow_cast-count c =
    let few = few_items c.args.graph.now c.args.to c.learn.ensures.small in
    let is = ap length c.items.ensures in
    omega arith

pub replace-requires-clause-rules : goal.replace-requires-clause-rules
replace-requires-clause-rules c = cut_rules c.args.graph.now.graph c.args.block c.args.at (length c.items.result.now) c.learn.ensures.rules c.requires.block

pub set_term-requires-clause-block : goal.set_term-requires-clause-block
set_term-requires-clause-block c = subst (λ h. HasBlock h c.args.block) (sym c.replace.ensures.graph) (cut_there c.args.graph.now.graph c.args.block c.args.at (length c.items.result.now) c.args.block c.requires.block)

pub set_term-requires-clause-rules : goal.set_term-requires-clause-rules
set_term-requires-clause-rules c =
    let g = c.args.graph.now.graph in
    let n = length c.items.result.now in
    subst (λ (h : Graph). IsGraph (with_term h c.args.block (Jump c.args.to))) (sym c.replace.ensures.graph)
    (jump_rules (replaced g c.args.block c.args.at (length c.items.result.now) []) c.args.block c.args.to (cut_rules g c.args.block c.args.at n c.learn.ensures.rules c.requires.block) (cut_there g c.args.block c.args.at n c.args.block c.requires.block)
    (cut_there g c.args.block c.args.at n c.args.to c.requires.target))

pub returns-clause-jump : goal.returns-clause-jump
returns-clause-jump c =
    let g = c.args.graph.now.graph in
    ap (λ h. term_of h c.args.block) (c.set_term.ensures.graph ∙ ap (λ h. with_term h c.args.block (Jump c.args.to)) (c.replace.ensures.graph ∙ ap (λ n. replaced g c.args.block c.args.at n []) (ap length c.items.ensures)))
    ∙ merged_term g c.args.block c.args.at c.args.to c.requires.block

pub returns-clause-total : goal.returns-clause-total
returns-clause-total c =
    let g = c.args.graph.now.graph in
    let n = length c.items.result.now in
    let spare = c.args.graph.now.spare in
    let mid = c.replace.new.self in
    let is = ap length c.items.ensures in
    let cut = total_by c.args.graph.now mid (replaced g c.args.block c.args.at (length c.items.result.now) []) _ c.replace.ensures.graph c.replace.ensures.spare (cut_total g c.args.block c.args.at n spare c.requires.block (omega (arith, is, c.requires.items))) in
    let term = total_by mid c.set_term.new.self (with_term mid.graph c.args.block (Jump c.args.to)) mid.spare c.set_term.ensures.graph c.set_term.ensures.spare
    (term_total mid.graph c.args.block (Jump c.args.to) mid.spare (subst (λ h. HasBlock h c.args.block) (sym c.replace.ensures.graph) (cut_there g c.args.block c.args.at n c.args.block c.requires.block))) in
    total_through c.args.graph.now mid c.set_term.new.self cut term
