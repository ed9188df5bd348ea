use Rattle.sq_arena.proofs.FullNodes.{HasKeys}
use Rattle.sq_arena.proofs.links.Links.with_keys.Given as goal

abbrev pub invariant-loop-key : goal.invariant-loop-key
invariant-loop-key g l = HasKeys l.made l.count l.key
