use Rattle.std.proofs.Common.{◌≡◌, ℕ, length, take, slice_get}
use Rattle.sq_live.specs.Effects.{IsBlock}
use Rattle.sq_live.proofs.layout.block_effects.Given as goal

abbrev pub invariant-loop-name : goal.invariant-loop-name
invariant-loop-name l = record {
  count : length l.effects.items ≡ l.name-index;
  effects : (k : ℕ) → IsBlock l.calls (slice_get l.effects.items k) (slice_get (take l.name-index l.g.graph.blocks) k);
}
