use Rattle.std.proofs.Common.{◌≡◌, ℕ, drop, nat_eq, option_map}
use Rattle.std.specs.HashMap.{get}
use Rattle.std.specs.List.{find}
use Rattle.sq_write.specs.Points.{new_address}
use Rattle.sq_write.proofs.code_words.set_words.Given as goal

abbrev pub invariant-loop-k : goal.invariant-loop-k
invariant-loop-k l = (x : ℕ) → get nat_eq l.set x ≡ option_map (λ word. new_address l.placed.g.now.graph l.placed.lo word.block) (find (λ word. nat_eq word.at x) (drop l.k l.words))
