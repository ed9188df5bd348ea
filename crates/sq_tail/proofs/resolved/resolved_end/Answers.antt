use Rattle.std.proofs.Common.{[], Some, ap, ◌∙◌}
use Rattle.std.proofs.lemmas.List.Elements.{All-head}
use Rattle.sq_graph.specs.Blocks.{HasBlock}
use Rattle.sq_graph.specs.declared.item.Term.TheVariants.{Jump, Branch, Call}
use Rattle.sq_lookup.proofs.Targets.{targets_there}
use Rattle.sq_tail.proofs.resolved.resolved_end.Goals as goal

pub resolve_by-requires-clause-block : goal.resolve_by-requires-clause-block
resolve_by-requires-clause-block c =
    let g = c.args.graph.now.graph in
    All-head (HasBlock g) c.in-Jump.to [] (targets_there g c.args.block (Jump c.in-Jump.to) c.learn.ensures.rules (c.term-term.ensures ∙ ap Some c.in-Jump.is))

pub resolve_by-requires-in-Branch-clause-block : goal.resolve_by-requires-in-Branch-clause-block
resolve_by-requires-in-Branch-clause-block c =
    let g = c.args.graph.now.graph in
    All-head (HasBlock g) c.in-Branch.to []
    (targets_there g c.args.block (Branch c.in-Branch.cond c.in-Branch.a c.in-Branch.b c.in-Branch.to) c.learn.ensures.rules (c.term-term.ensures ∙ ap Some c.in-Branch.is))

pub resolve_by-requires-in-Call-clause-block : goal.resolve_by-requires-in-Call-clause-block
resolve_by-requires-in-Call-clause-block c =
    let g = c.args.graph.now.graph in
    All-head (HasBlock g) c.in-Call.to [] (targets_there g c.args.block (Call c.in-Call.link c.in-Call.to) c.learn.ensures.rules (c.term-term.ensures ∙ ap Some c.in-Call.is))
