use Rattle.std.proofs.Common.{◌≡◌, [], sym, ap, ◌∙◌, subst}
use Rattle.std.proofs.lemmas.List.Elements.{All-head}
use Rattle.sq_arena.specs.Entries.{ContainsKey, without_run, IsRun}
use Rattle.sq_graph.specs.declared.item.Term.TheVariants.{Jump}
use Rattle.sq_graph.specs.Graph.{Graph}
use Rattle.sq_graph.specs.Blocks.{named, HasBlock}
use Rattle.sq_graph.specs.Operations.{moved_after}
use Rattle.sq_graph.specs.Rules.{IsGraph}
use Rattle.sq_graph.specs.Soundness.{IsSound}
use Rattle.law_follow.specs.Follows.{Follows}
use Rattle.law_follow.proofs.Following.{graph_follows_through}
use Rattle.sq_lookup.proofs.Targets.{targets_there}
use Rattle.sq_chain.specs.Moves.{carried}
use Rattle.sq_chain.proofs.Moved.{carried_keeps}
use Rattle.sq_chain.proofs.Reordered.{chain_run, jumping_outside, chain_moved_rules}
use Rattle.sq_chain.proofs.carry.carry.Goals as goal

pub end_of_chain-requires-clause-to : goal.end_of_chain-requires-clause-to
end_of_chain-requires-clause-to c =
    let g = c.args.graph.now.graph in
    All-head (HasBlock g) c.args.to [] (targets_there g c.args.from (Jump c.args.to) c.learn.ensures.rules c.requires.jump)

pub move_after-requires-clause-run : goal.move_after-requires-clause-run
move_after-requires-clause-run c =
    let g = c.args.graph.now.graph in
    let end = c.end_of_chain.ensures.some c.in-Some.end c.in-Some.is in
    subst (λ k. IsRun (named g.blocks) c.args.to k) (sym end) (chain_run g c.args.from c.args.to c.learn.ensures.rules c.requires)

pub move_after-requires-clause-after : goal.move_after-requires-clause-after
move_after-requires-clause-after c =
    let g = c.args.graph.now.graph in
    let end = c.end_of_chain.ensures.some c.in-Some.end c.in-Some.is in
    subst (λ k. ContainsKey (without_run (named g.blocks) c.args.to k) c.args.from) (sym end) (jumping_outside g c.args.from c.args.to c.learn.ensures.rules c.requires)

pub move_after-requires-clause-rules : goal.move_after-requires-clause-rules
move_after-requires-clause-rules c =
    let g = c.args.graph.now.graph in
    let end = c.end_of_chain.ensures.some c.in-Some.end c.in-Some.is in
    subst (λ k. IsGraph (moved_after g c.args.to k c.args.from)) (sym end) (chain_moved_rules g c.args.from c.args.to c.learn.ensures.rules c.requires)

pub returns-clause-follows : goal.returns-clause-follows
returns-clause-follows c =
    let g = c.args.graph.now.graph in
    let new = c.fall_each.new.graph.graph in
    let end = c.end_of_chain.ensures.some c.in-Some.end c.in-Some.is in
    let is : c.move_after.new.self.graph ≡ carried c.args.graph.now.graph c.args.from c.args.to = c.move_after.ensures.graph ∙ ap (λ k. moved_after g c.args.to k c.args.from) end in
    let keeps = carried_keeps g c.args.from c.args.to c.learn.ensures.rules c.requires in
    graph_follows_through g (carried g c.args.from c.args.to) new keeps.follows (subst (λ (k : Graph). Follows k new) is c.fall_each.ensures.follows)

pub returns-clause-sound : goal.returns-clause-sound
returns-clause-sound c = λ s.
    let g = c.args.graph.now.graph in
    let end = c.end_of_chain.ensures.some c.in-Some.end c.in-Some.is in
    let is : c.move_after.new.self.graph ≡ carried c.args.graph.now.graph c.args.from c.args.to = c.move_after.ensures.graph ∙ ap (λ k. moved_after g c.args.to k c.args.from) end in
    let keeps = carried_keeps g c.args.from c.args.to c.learn.ensures.rules c.requires in
    c.fall_each.ensures.sound (subst IsSound (sym is) (keeps.sound s))
