use Rattle.std.proofs.Common.{sym, ◌∙◌}
use Rattle.sq_tail.proofs.Slots.{next_there}
use Rattle.sq_tail.proofs.resolved.resolved_next.Goals as goal

pub resolve_by-requires-clause-block : goal.resolve_by-requires-clause-block
resolve_by-requires-clause-block c = next_there c.args.graph.now.graph c.args.block c.in-Some.next (sym c.next.ensures ∙ c.in-Some.is)
