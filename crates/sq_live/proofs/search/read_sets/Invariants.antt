use Rattle.std.proofs.Common.{◌≡◌, take, map}
use Rattle.sq_live.proofs.search.read_sets.Given as goal

abbrev pub invariant-loop-effect : goal.invariant-loop-effect
invariant-loop-effect l = l.sets.items ≡ map (λ effect. effect.reads) (take l.effect-index l.effects)
