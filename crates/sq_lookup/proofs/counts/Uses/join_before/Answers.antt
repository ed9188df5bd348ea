use Rattle.std.proofs.Common.{◌≡◌, Some, sym, ap, ◌∙◌, subst}
use Rattle.sq_graph.specs.Graph.{Graph}
use Rattle.sq_graph.specs.Blocks.{term_of}
use Rattle.sq_graph.specs.Leaders.{is_fall}
use Rattle.sq_lookup.specs.Counts.{AreUses}
use Rattle.sq_lookup.proofs.Previous.{next_has, one_before}
use Rattle.sq_lookup.proofs.JoiningBefore.{fall_is, next_unused, joins, joins_not, uses_before}
use Rattle.sq_lookup.proofs.counts.Uses.join_before.Goals as goal

pub returns-in_default-clause-graph : goal.returns-in_default-clause-graph
returns-in_default-clause-graph c =
    joins_not c.args.graph.now.graph c.args.name c.learn.ensures.rules (λ m t next is. absurd (c.block_before.ensures.none c.in_default.is m next))

pub term-requires : goal.term-requires
term-requires c =
    next_has c.args.graph.now.graph.blocks c.in-Some.block c.args.name (c.block_before.ensures.some c.in-Some.block c.in-Some.is)

pub join-requires-clause-falls : goal.join-requires-clause-falls
join-requires-clause-falls c = c.term.ensures ∙ ap Some (fall_is c.term.result (sym c.is_fall.ensures ∙ c.if-is_fall.true))

pub join-requires-clause-unused : goal.join-requires-clause-unused
join-requires-clause-unused c =
    let g = c.args.graph.now.graph in
    next_unused g c.in-Some.block c.args.name (c.block_before.ensures.some c.in-Some.block c.in-Some.is) (sym (c.has.ensures g c.requires) ∙ c.if-has.false)

pub returns-then-is_fall-clause-graph : goal.returns-then-is_fall-clause-graph
returns-then-is_fall-clause-graph c =
    let g = c.args.graph.now.graph in
    let falls = c.term.ensures ∙ ap Some (fall_is c.term.result (sym c.is_fall.ensures ∙ c.if-is_fall.true)) in
    c.join.ensures.graph ∙ joins g c.args.name c.learn.ensures.rules c.in-Some.block (c.block_before.ensures.some c.in-Some.block c.in-Some.is) falls (sym (c.has.ensures g c.requires) ∙ c.if-has.false)

pub returns-then-is_fall-clause-uses : goal.returns-then-is_fall-clause-uses
returns-then-is_fall-clause-uses c =
    let g = c.args.graph.now.graph in
    subst (λ (k : Graph). AreUses k c.args.self.now) (sym (returns-then-is_fall-clause-graph c)) (uses_before g c.args.name c.learn.ensures.rules c.args.self.now c.requires)

pub returns-else-is_fall-clause-graph : goal.returns-else-is_fall-clause-graph
returns-else-is_fall-clause-graph c =
    let g = c.args.graph.now.graph in
    joins_not g c.args.name c.learn.ensures.rules
    (λ m t next is.
    let same = one_before g c.in-Some.block m c.args.name c.learn.ensures.rules (c.block_before.ensures.some c.in-Some.block c.in-Some.is) next in
    let both : Some t ≡ Some c.term.result = sym is ∙ sym (ap (term_of g) same) ∙ c.term.ensures in
    let term : t ≡ c.term.result = cc in
    ap is_fall term ∙ sym c.is_fall.ensures ∙ c.if-is_fall.false)
