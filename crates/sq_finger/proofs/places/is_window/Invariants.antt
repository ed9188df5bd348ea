use Rattle.std.proofs.Common.{◌≡◌, drop, take}
use Rattle.std.specs.List.{list_all}
use Rattle.sq_finger.specs.Windows.{is_plain}
use Rattle.sq_finger.proofs.places.is_window.Given as goal

abbrev pub invariant-loop-item : goal.invariant-loop-item
invariant-loop-item l = list_all is_plain (drop l.item-index (take l.n l.items)) ≡ list_all is_plain (take l.n l.items)
