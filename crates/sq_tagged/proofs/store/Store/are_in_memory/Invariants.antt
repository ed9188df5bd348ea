use Rattle.std.proofs.Common.{◌≡◌, true}
use Rattle.sq_system.specs.World.{are_all}
use Rattle.sq_memory.specs.Cells.{is_in_memory}
use Rattle.sq_tagged.specs.Views.{store_of}
use Rattle.sq_tagged.proofs.store.Store.are_in_memory.Given as goal

abbrev pub invariant-loop-i : goal.invariant-loop-i
invariant-loop-i l = are_all (is_in_memory (store_of l.self).memory) l.x l.i ≡ true
