use Rattle.std.proofs.Common.{◌≡◌, length, ap, ◌∙◌, subst, arith}
use Rattle.sq_graph.specs.Graph.{Graph}
use Rattle.sq_graph.specs.Room.{GraphAndRoom}
use Rattle.sq_graph.specs.Soundness.{IsSound}
use Rattle.law_follow.specs.Follows.{Follows}
use Rattle.sq_chain.specs.Moves.{carried, fallen}
use Rattle.sq_chain.proofs.Moved.{carried_length, moved_words, is_moved}
use Rattle.sq_chain.proofs.moving.move_wide.Goals as goal

pub widen-requires : goal.widen-requires
widen-requires c =
    let g = c.args.graph.now.graph in
    let is : c.carry.new.graph.graph ≡ fallen (carried c.args.graph.now.graph c.args.from c.args.to) = c.carry.ensures.graph ∙ ap (λ (v : GraphAndRoom). fallen (carried v.graph c.args.from c.args.to)) c.in_ok-trial.ensures in
    let size = carried_length g c.args.from c.args.to c.learn.ensures.rules c.requires.movable in
    let few = c.requires.blocks in
    omega (arith, ap (λ (k : Graph). length k.blocks) is, size, few)

pub returns-then-words_of-clause-moved : goal.returns-then-words_of-clause-moved
returns-then-words_of-clause-moved c = λ e.
    let g = c.args.graph.now.graph in
    let h = c.carry.new.graph.graph in
    let new = c.widen.new.graph.graph in
    let is : c.carry.new.graph.graph ≡ fallen (carried c.args.graph.now.graph c.args.from c.args.to) = c.carry.ensures.graph ∙ ap (λ (v : GraphAndRoom). fallen (carried v.graph c.args.from c.args.to)) c.in_ok-trial.ensures in
    let follows = subst (λ (v : GraphAndRoom). Follows v.graph h) c.in_ok-trial.ensures c.carry.ensures.follows in
    let sound = subst (λ (v : GraphAndRoom). IsSound v.graph → IsSound h) c.in_ok-trial.ensures c.carry.ensures.sound in
    let less = c.if-words_of.true in
    let one = c.words_of.ensures in
    let two = c.words_of-2.ensures in
    is_moved g h new c.args.from c.args.to c.requires.movable is c.in_ok-widen.ensures.widened c.learn.ensures.rules c.in_ok-widen.ensures.names c.learn-2.ensures.rules follows sound c.in_ok-widen.ensures.follows c.in_ok-widen.ensures.sound c.in_ok-widen.ensures.reach
    (omega (arith, less, one, two))

pub returns-clause-still : goal.returns-clause-still
returns-clause-still c = λ e.
    let g = c.args.graph.now.graph in
    let h = c.carry.new.graph.graph in
    let new = c.widen.new.graph.graph in
    let is : c.carry.new.graph.graph ≡ fallen (carried c.args.graph.now.graph c.args.from c.args.to) = c.carry.ensures.graph ∙ ap (λ (v : GraphAndRoom). fallen (carried v.graph c.args.from c.args.to)) c.in_ok-trial.ensures in
    let words = moved_words g h new c.args.from c.args.to c.requires.movable is c.in_ok-widen.ensures.widened in
    let more = c.if-words_of.false in
    let one = c.words_of.ensures in
    let two = c.words_of-2.ensures in
    omega (arith, words, more, one, two)
