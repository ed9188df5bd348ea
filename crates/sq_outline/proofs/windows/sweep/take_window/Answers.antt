use Rattle.std.proofs.Common.{◌+◌, ◌≤◌, length, sym, ap, ◌∙◌, subst, arith}
use Rattle.sq_graph.specs.Graph.{Graph}
use Rattle.sq_graph.specs.Blocks.{HasBlock, items_of}
use Rattle.sq_graph.specs.Operations.{outlined}
use Rattle.sq_graph.specs.Rules.{IsGraph}
use Rattle.sq_outline.specs.WindowsSwept.{HasBlocksOf}
use Rattle.sq_outline.proofs.WindowsSweptMade.{window_few, outlined_is_graph, first_site, has_blocks, places_start, places_sweeping, places_swept}
use Rattle.sq_outline.proofs.WindowsTaking.{taking_here, taking_next}
use Rattle.sq_outline.proofs.WindowsTakenOf.{has_fates}
use Rattle.sq_outline.proofs.WindowsUntaken.{has_its_blocks, room_for_more}
use Rattle.sq_outline.proofs.windows.sweep.take_window.Goals as goal

pub reserve-requires : goal.reserve-requires
reserve-requires c =
    let most = c.requires.may.most in
    room_for_more c.args.graph.now.graph c.args.taken.now c.args.savings c.args.n c.requires.sweeping (let small = c.learn.ensures.small.blocks in omega (arith, small)) (omega (arith, most))

pub returns-in_err-reserve-clause-blocks : goal.returns-in_err-reserve-clause-blocks
returns-in_err-reserve-clause-blocks c = subst (HasBlocksOf c.args.graph.now.graph) (sym c.reserve.ensures.graph) (has_its_blocks c.args.graph.now.graph)

pub outline-procedure-requires-clause-block : goal.outline-procedure-requires-clause-block
outline-procedure-requires-clause-block c =
    let f = c.args.found in
    subst (λ (k : Graph). HasBlock k f.first.block) (sym c.reserve.ensures.graph) (first_site c.args.graph.now.graph c.args.taken.now.fates.items c.learn.ensures.rules f.first.block f.first.at c.args.n f.link f.saving c.args.sites.now c.requires.may).there

pub outline-procedure-requires-clause-some : goal.outline-procedure-requires-clause-some
outline-procedure-requires-clause-some c = let least = c.requires.may.least in omega (arith, least)

pub outline-procedure-requires-clause-there : goal.outline-procedure-requires-clause-there
outline-procedure-requires-clause-there c =
    let f = c.args.found in
    subst (λ (k : Graph). f.first.at + c.args.n ≤ length (items_of k f.first.block)) (sym c.reserve.ensures.graph) (first_site c.args.graph.now.graph c.args.taken.now.fates.items c.learn.ensures.rules f.first.block f.first.at c.args.n f.link f.saving c.args.sites.now c.requires.may).within

pub outline-procedure-requires-clause-spare_items : goal.outline-procedure-requires-clause-spare_items
outline-procedure-requires-clause-spare_items c = c.in_ok-reserve.ensures.ok.items

pub outline-procedure-requires-clause-spare_procedures : goal.outline-procedure-requires-clause-spare_procedures
outline-procedure-requires-clause-spare_procedures c = let l = c.in_ok-reserve.ensures.ok.procedures in omega (arith, l)

pub outline-procedure-requires-clause-rules : goal.outline-procedure-requires-clause-rules
outline-procedure-requires-clause-rules c =
    let f = c.args.found in
    subst (λ (k : Graph). IsGraph (outlined k f.first.block f.first.at c.args.n f.link)) (sym c.reserve.ensures.graph)
    (outlined_is_graph c.args.graph.now.graph c.args.taken.now.fates.items c.learn.ensures.rules f.first.block f.first.at c.args.n f.link f.saving c.args.sites.now c.requires.may)

pub loop-at-init : goal.loop-at-init
loop-at-init c =
    let g = c.args.graph.now.graph in
    let f = c.args.found in
    let is = c.outline-procedure.ensures.graph ∙ ap (λ (k : Graph). outlined k f.first.block f.first.at c.args.n f.link) c.reserve.ensures.graph in
    let number = c.outline-procedure.ensures.number ∙ ap (λ (k : Graph). length k.procedures) c.reserve.ensures.graph in
    places_start g c.outline-procedure.new.self.graph c.args.taken.now c.learn.ensures.rules f.first.block f.first.at c.args.n f.link f.saving c.args.sites.now c.args.savings c.requires.sweeping c.requires.may c.outline-procedure.result is number

pub take-requires-clause-some : goal.take-requires-clause-some
take-requires-clause-some c = let least = c.requires.may.least in omega (arith, least)

pub take-requires-clause-within : goal.take-requires-clause-within
take-requires-clause-within c =
    let h = c.outline-procedure.new.self.graph in
    let here = taking_here h c.args.n c.outline-procedure.result (let least = c.requires.may.least in omega (arith, least)) c.args.sites.now c.args.taken.now.fates.items c.loop-at.at _ c.loop-at-test.true c.loop-at.taken c.loop-at.invariant in
    has_fates h c.loop-at.taken c.loop-at.invariant.is_taken _ _ c.args.n here.there here.within

pub loop-at-preserved : goal.loop-at-preserved
loop-at-preserved c =
    taking_next c.outline-procedure.new.self.graph c.args.n c.outline-procedure.result (let least = c.requires.may.least in omega (arith, least)) c.args.sites.now c.args.taken.now.fates.items c.loop-at.at _ c.loop-at-test.true c.loop-at.taken
    c.loop-at.invariant c.take.new.self c.in_ok-take.ensures.fates c.take.ensures.ahead

pub returns-in_err-take-clause-blocks : goal.returns-in_err-take-clause-blocks
returns-in_err-take-clause-blocks c =
    let g = c.args.graph.now.graph in
    let f = c.args.found in
    let is = c.outline-procedure.ensures.graph ∙ ap (λ (k : Graph). outlined k f.first.block f.first.at c.args.n f.link) c.reserve.ensures.graph in
    let number = c.outline-procedure.ensures.number ∙ ap (λ (k : Graph). length k.procedures) c.reserve.ensures.graph in
    has_blocks g c.outline-procedure.new.self.graph c.args.taken.now c.learn.ensures.rules f.first.block f.first.at c.args.n f.link f.saving c.args.sites.now c.args.savings c.requires.sweeping c.requires.may c.outline-procedure.result is number

pub count-requires : goal.count-requires
count-requires c =
    let g = c.args.graph.now.graph in
    let f = c.args.found in
    let is = c.outline-procedure.ensures.graph ∙ ap (λ (k : Graph). outlined k f.first.block f.first.at c.args.n f.link) c.reserve.ensures.graph in
    let number = c.outline-procedure.ensures.number ∙ ap (λ (k : Graph). length k.procedures) c.reserve.ensures.graph in
    let few = window_few g c.outline-procedure.new.self.graph c.args.taken.now c.learn.ensures.rules f.first.block f.first.at c.args.n f.link f.saving c.args.sites.now c.args.savings c.requires.sweeping c.requires.may c.outline-procedure.result is number in
    omega (arith, few)

pub returns-clause-sweeping : goal.returns-clause-sweeping
returns-clause-sweeping c =
    let g = c.args.graph.now.graph in
    let f = c.args.found in
    let is = c.outline-procedure.ensures.graph ∙ ap (λ (k : Graph). outlined k f.first.block f.first.at c.args.n f.link) c.reserve.ensures.graph in
    let number = c.outline-procedure.ensures.number ∙ ap (λ (k : Graph). length k.procedures) c.reserve.ensures.graph in
    places_sweeping g c.outline-procedure.new.self.graph c.args.taken.now c.learn.ensures.rules f.first.block f.first.at c.args.n f.link f.saving c.args.sites.now c.args.savings c.requires.sweeping c.requires.may c.outline-procedure.result is number
    c.loop-at.taken c.count.result c.loop-at.at c.loop-at-test.false c.loop-at.invariant c.count.ensures.value

pub returns-clause-swept : goal.returns-clause-swept
returns-clause-swept c =
    let g = c.args.graph.now.graph in
    let f = c.args.found in
    let is = c.outline-procedure.ensures.graph ∙ ap (λ (k : Graph). outlined k f.first.block f.first.at c.args.n f.link) c.reserve.ensures.graph in
    let number = c.outline-procedure.ensures.number ∙ ap (λ (k : Graph). length k.procedures) c.reserve.ensures.graph in
    places_swept g c.outline-procedure.new.self.graph c.args.taken.now c.learn.ensures.rules f.first.block f.first.at c.args.n f.link f.saving c.args.sites.now c.args.savings c.requires.sweeping c.requires.may c.outline-procedure.result is number
    c.loop-at.taken c.count.result c.loop-at.at c.loop-at-test.false c.loop-at.invariant c.count.ensures.value

pub returns-clause-blocks : goal.returns-clause-blocks
returns-clause-blocks c =
    let g = c.args.graph.now.graph in
    let f = c.args.found in
    let is = c.outline-procedure.ensures.graph ∙ ap (λ (k : Graph). outlined k f.first.block f.first.at c.args.n f.link) c.reserve.ensures.graph in
    let number = c.outline-procedure.ensures.number ∙ ap (λ (k : Graph). length k.procedures) c.reserve.ensures.graph in
    has_blocks g c.outline-procedure.new.self.graph c.args.taken.now c.learn.ensures.rules f.first.block f.first.at c.args.n f.link f.saving c.args.sites.now c.args.savings c.requires.sweeping c.requires.may c.outline-procedure.result is number
