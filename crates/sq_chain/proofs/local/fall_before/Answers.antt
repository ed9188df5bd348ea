use Rattle.std.proofs.Common.{◌≡◌, ◌-◌, ◌==◌, ◌||◌, arith, Some, refl, sym, ap, ◌∙◌, subst}
use Rattle.sq_graph.specs.declared.item.Term.TheVariants.{Jump}
use Rattle.sq_graph.specs.Graph.{Graph}
use Rattle.sq_graph.specs.Blocks.{term_of}
use Rattle.sq_lookup.specs.Counts.{AreUses}
use Rattle.sq_chain.specs.Bare.{AreSolidBut}
use Rattle.sq_chain.specs.Surveys.{IsPlaced}
use Rattle.sq_chain.specs.declared.survey.Places.{Places}
use Rattle.sq_chain.proofs.Fallen.{fall_keeps}
use Rattle.sq_chain.proofs.Replaced.{placed_fell}
use Rattle.sq_chain.proofs.Resurveyed.{fell_words}
use Rattle.sq_lookup.proofs.Previous.{next_has, one_before}
use Rattle.sq_chain.proofs.Settling.{fallen_stays, fell, uses_fell, counted, solid_fell, jump_here, jumps_here}
use Rattle.sq_chain.proofs.local.fall_before.Goals as goal

pub returns-in_default-clause-graph : goal.returns-in_default-clause-graph
returns-in_default-clause-graph c =
    sym (fallen_stays c.args.graph.now.graph c.args.name c.learn.ensures.rules (λ m next jump. c.block_before.ensures.none c.in_default.is m next))

pub term-requires : goal.term-requires
term-requires c =
    next_has c.args.graph.now.graph.blocks c.in-Some.block c.args.name (c.block_before.ensures.some c.in-Some.block c.in-Some.is)

pub returns-then-not-jumps_to-clause-graph : goal.returns-then-not-jumps_to-clause-graph
returns-then-not-jumps_to-clause-graph c =
    let g = c.args.graph.now.graph in
    let next = c.block_before.ensures.some c.in-Some.block c.in-Some.is in
    sym (fallen_stays g c.args.name c.learn.ensures.rules
    (λ m follows jump.
    let same = one_before g c.in-Some.block m c.args.name c.learn.ensures.rules next follows in
    let mine : term_of g c.in-Some.block ≡ Some (Jump c.args.name) = ap (term_of g) same ∙ jump in
    let one = c.jumps_to.ensures.1 (jumps_here g c.in-Some.block c.args.name c.term.result c.term.ensures mine) in
    let none = c.if-not-jumps_to.true in
    cc))

pub set_term-requires-clause-rules : goal.set_term-requires-clause-rules
set_term-requires-clause-rules c =
    let g = c.args.graph.now.graph in
    let next = c.block_before.ensures.some c.in-Some.block c.in-Some.is in
    let jump = jump_here g c.in-Some.block c.args.name c.term.result c.term.ensures (c.jumps_to.ensures.0 c.if-not-jumps_to.false) in
    (fall_keeps g c.in-Some.block c.args.name c.learn.ensures.rules jump next).rules

pub take-requires : goal.take-requires
take-requires c =
    let g = c.args.graph.now.graph in
    let next = c.block_before.ensures.some c.in-Some.block c.in-Some.is in
    let jump = jump_here g c.in-Some.block c.args.name c.term.result c.term.ensures (c.jumps_to.ensures.0 c.if-not-jumps_to.false) in
    counted g c.in-Some.block c.args.name c.learn.ensures.rules next jump c.args.uses.now c.requires.uses

pub returns-clause-graph : goal.returns-clause-graph
returns-clause-graph c =
    let g = c.args.graph.now.graph in
    let next = c.block_before.ensures.some c.in-Some.block c.in-Some.is in
    let jump = jump_here g c.in-Some.block c.args.name c.term.result c.term.ensures (c.jumps_to.ensures.0 c.if-not-jumps_to.false) in
    c.set_term.ensures.graph ∙ fell g c.in-Some.block c.args.name c.learn.ensures.rules next jump

pub returns-clause-uses : goal.returns-clause-uses
returns-clause-uses c =
    let g = c.args.graph.now.graph in
    let next = c.block_before.ensures.some c.in-Some.block c.in-Some.is in
    let jump = jump_here g c.in-Some.block c.args.name c.term.result c.term.ensures (c.jumps_to.ensures.0 c.if-not-jumps_to.false) in
    subst (λ (k : Graph). AreUses k c.take.new.self) (sym c.set_term.ensures.graph)
    (uses_fell g c.in-Some.block c.args.name c.learn.ensures.rules next jump c.args.uses.now c.take.new.self c.requires.uses c.take.ensures)

pub returns-clause-solid : goal.returns-clause-solid
returns-clause-solid c = λ may solid.
    let g = c.args.graph.now.graph in
    let next = c.block_before.ensures.some c.in-Some.block c.in-Some.is in
    let jump = jump_here g c.in-Some.block c.args.name c.term.result c.term.ensures (c.jumps_to.ensures.0 c.if-not-jumps_to.false) in
    subst (λ (k : Graph). AreSolidBut (λ n. c.in-Some.block == n || may n) k) (sym c.set_term.ensures.graph)
    (solid_fell g c.in-Some.block c.args.name c.learn.ensures.rules next jump may solid)

pub overflow_sub-places : goal.overflow_sub-places
overflow_sub-places c =
    let g = c.args.graph.now.graph in
    let next = c.block_before.ensures.some c.in-Some.block c.in-Some.is in
    let jump = jump_here g c.in-Some.block c.args.name c.term.result c.term.ensures (c.jumps_to.ensures.0 c.if-not-jumps_to.false) in
    let fewer = fell_words g.blocks c.in-Some.block c.args.name jump in
    omega (arith, fewer, c.requires.placed.words)

pub returns-clause-placed : goal.returns-clause-placed
returns-clause-placed c =
    let g = c.args.graph.now.graph in
    let next = c.block_before.ensures.some c.in-Some.block c.in-Some.is in
    let jump = jump_here g c.in-Some.block c.args.name c.term.result c.term.ensures (c.jumps_to.ensures.0 c.if-not-jumps_to.false) in
    let fewer = fell_words g.blocks c.in-Some.block c.args.name jump in
    let new : Places = record { addresses = c.lower_behind.new.addresses; words = c.args.places.now.words - 1; jumps = c.take-2.new.self; branches = c.args.places.now.branches; holders = c.args.places.now.holders } in
    subst (λ (k : Graph). IsPlaced k new) (sym c.set_term.ensures.graph)
    (placed_fell g c.in-Some.block c.args.name c.get-start.result c.args.places.now new jump c.requires.placed c.get-start.ensures c.lower_behind.ensures (omega (arith, fewer, c.requires.placed.words)) refl)
