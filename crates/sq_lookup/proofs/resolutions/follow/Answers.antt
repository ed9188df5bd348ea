use Rattle.std.proofs.Common.{sym, ◌∙◌}
use Rattle.std.proofs.lemmas.List.Elements.{All-push, All-same}
use Rattle.sq_graph.specs.Blocks.{HasBlock}
use Rattle.sq_lookup.proofs.Targets.{jump_there}
use Rattle.sq_lookup.proofs.resolutions.follow.Goals as goal

pub returns-then-last-mark-clause-last : goal.returns-then-last-mark-clause-last
returns-then-last-mark-clause-last c = jump_there c.args.graph.now.graph c.loop-hop.last c.in-Some.to c.learn.ensures.rules (sym c.jump_from.ensures ∙ c.in-Some.is)

pub loop-hop-preserved : goal.loop-hop-preserved
loop-hop-preserved c = record { jumps = All-same (HasBlock c.args.graph.now.graph) _ _ c.in_ok-push.ensures.items (All-push (HasBlock c.args.graph.now.graph) c.loop-hop.jumps.items c.loop-hop.last c.loop-hop.invariant.jumps c.loop-hop.invariant.last); last = jump_there c.args.graph.now.graph c.loop-hop.last c.in-Some.to c.learn.ensures.rules (sym c.jump_from.ensures ∙ c.in-Some.is) }
