use Rattle.std.proofs.Common.{false, ◌||◌, sym, ap, ◌∙◌, subst}
use Rattle.sq_graph.specs.Graph.{Graph}
use Rattle.sq_graph.specs.Canonical.{joined_before}
use Rattle.sq_chain.specs.Bare.{AreLed, is_it}
use Rattle.sq_chain.specs.Moves.{carried}
use Rattle.sq_chain.specs.Settled.{AreWide}
use Rattle.sq_chain.specs.Surveys.{NoneFalls}
use Rattle.sq_chain.proofs.Broad.{widened_swept}
use Rattle.sq_chain.proofs.Replaced.{none_saved}
use Rattle.sq_chain.proofs.Resurveyed.{fallen_once}
use Rattle.sq_chain.proofs.Settling.{joined_is}
use Rattle.sq_chain.proofs.local.carry_joined.Goals as goal

pub widen_both-requires-clause-wide : goal.widen_both-requires-clause-wide
widen_both-requires-clause-wide c = subst (λ (k : Graph). AreWide k c.args.wide) (sym c.carry_fallen-seams.ensures.graph) c.requires.wide.are

pub returns-then-not-widen_both-clause-swept : goal.returns-then-not-widen_both-clause-swept
returns-then-not-widen_both-clause-swept c =
    widened_swept c.args.graph.now.graph c.carry_fallen-seams.new.graph.graph c.widen_both.new.graph.graph c.args.from c.args.to c.args.wide c.learn.ensures.rules c.requires.movable c.carry_fallen-seams.ensures.graph c.requires.wide c.widen_both.ensures.widened c.widen_both.ensures.rules c.widen_both.ensures.follows c.widen_both.ensures.sound
    c.canonical.new.self.graph c.canonical.ensures.graph

pub returns-then-not-drop_at_seams-clause-swept : goal.returns-then-not-drop_at_seams-clause-swept
returns-then-not-drop_at_seams-clause-swept c =
    widened_swept c.args.graph.now.graph c.carry_fallen-seams.new.graph.graph c.widen_both.new.graph.graph c.args.from c.args.to c.args.wide c.learn.ensures.rules c.requires.movable c.carry_fallen-seams.ensures.graph c.requires.wide c.widen_both.ensures.widened c.widen_both.ensures.rules c.widen_both.ensures.follows c.widen_both.ensures.sound
    c.canonical-then-not-drop_at_seams.new.self.graph (c.canonical-then-not-drop_at_seams.ensures.graph ∙ c.drop_at_seams.ensures.same)

pub returns-clause-swept : goal.returns-clause-swept
returns-clause-swept c =
    let g = c.args.graph.now.graph in
    let s = c.carry_fallen-seams.result in
    let wide = c.if-not-widen_both.false in
    let done = c.if-not-drop_at_seams.false in
    let solid = c.widen_both.ensures.solid wide (λ n. is_it s.fell.first n || (is_it s.fell.third n || (is_it s.fell.second n || false))) c.carry_fallen-seams.ensures.solid in
    widened_swept c.args.graph.now.graph c.carry_fallen-seams.new.graph.graph c.widen_both.new.graph.graph c.args.from c.args.to c.args.wide c.learn.ensures.rules c.requires.movable c.carry_fallen-seams.ensures.graph c.requires.wide c.widen_both.ensures.widened c.widen_both.ensures.rules c.widen_both.ensures.follows c.widen_both.ensures.sound
    c.join_before-3.new.graph.graph
    (c.join_before-3.ensures.graph
    ∙ ap (λ (k : Graph). joined_before k c.args.to) c.join_before-2.ensures.graph
    ∙ ap (λ (k : Graph). joined_before (joined_before k s.behind) c.args.to) c.join_before.ensures.graph
    ∙ sym (joined_is g c.args.from c.args.to s.after s.behind c.learn.ensures.rules c.requires.canonical c.requires.movable (none_saved g c.requires.falls) c.carry_fallen-seams.ensures.after c.carry_fallen-seams.ensures.behind c.widen_both.new.graph.graph c.drop_at_seams.new.graph.graph c.learn-2.ensures.rules c.drop_at_seams.ensures.same
    (c.drop_at_seams.ensures.solid done (λ n. false) solid)
    (λ leads led. c.drop_at_seams.ensures.led done leads (c.widen_both.ensures.led wide leads (subst (λ (k : Graph). AreLed leads k) (sym c.carry_fallen-seams.ensures.graph) led)))))

pub returns-clause-falls : goal.returns-clause-falls
returns-clause-falls c = λ done.
    let none : NoneFalls c.carry_fallen-seams.new.graph.graph = subst NoneFalls (sym c.carry_fallen-seams.ensures.graph) (fallen_once (carried c.args.graph.now.graph c.args.from c.args.to).blocks) in
    let wide = c.widen_both.ensures.falls c.if-not-widen_both.false none in
    c.join_before-3.ensures.falls (c.join_before-2.ensures.falls (c.join_before.ensures.falls (c.drop_at_seams.ensures.falls c.if-not-drop_at_seams.false wide)))
