use Rattle.std.proofs.Common.{◌≡◌, ◌++◌, map, drop}
use Rattle.sq_finger.specs.ItemKeys.{key_of}
use Rattle.sq_fold.specs.Partition.{bare_item}
use Rattle.sq_fold.proofs.walking.bare_keys.Given as goal

abbrev pub invariant-loop-item : goal.invariant-loop-item
invariant-loop-item l = l.keys.items ++ map (λ item. key_of (bare_item item)) (drop l.item-index l.items) ≡ map (λ item. key_of (bare_item item)) l.items
