use Rattle.std.proofs.Common.{◌≡◌, ℕ, ◌<◌, false, take}
use Rattle.sq_isa.specs.Registers.{is_member}
use Rattle.sq_live.specs.Effects.{before_items, items_write}
use Rattle.sq_live.proofs.effect.items_effect.Given as goal

abbrev pub invariant-loop-item : goal.invariant-loop-item
invariant-loop-item l = record {
  reads : (q : ℕ) → q < 32 → is_member l.effect.reads q ≡ before_items l.calls (take l.item-index l.items) false q;
  writes : (q : ℕ) → is_member l.effect.writes q ≡ items_write l.calls (take l.item-index l.items) q;
}
