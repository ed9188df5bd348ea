use Rattle.std.proofs.Common.{◌≡◌, Some}
use Rattle.sq_memory.specs.Cells.{cells_from}
use Rattle.sq_memory.specs.Regions.{get}
use Rattle.sq_memory.proofs.contents.Contents.get_all.Given as goal

abbrev pub invariant-loop-i : goal.invariant-loop-i
invariant-loop-i g l = record {
  found : cells_from (get l.initial.self) l.address l.i ≡ Some l.cells.items;
  kept : l.self ≡ l.initial.self;
}
