use Rattle.std.proofs.Common.{◌≡◌, ◌++◌, drop}
use Rattle.sq_graph.specs.Renames.{retargeted_items}
use Rattle.sq_quotient.specs.Staying.{place_in}
use Rattle.sq_quotient.proofs.folding.Folding.push_items.Given as goal

abbrev pub invariant-loop-item : goal.invariant-loop-item
invariant-loop-item l = l.items.items ++ retargeted_items (place_in l.self) (drop l.item-index l.more) ≡ l.initial.items.items ++ retargeted_items (place_in l.self) l.more
