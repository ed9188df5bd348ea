use Rattle.std.proofs.Common.{◌≡◌, ◌≤◌, max}
use Rattle.sq_memory.specs.Cells.{map_cells}
use Rattle.sq_pages.specs.Pages.{cells_of, over}
use Rattle.sq_tagged.specs.Views.{cell_of}
use Rattle.sq_monitor.specs.Zeros.{zero_cells}
use Rattle.sq_monitor.proofs.zeros.lay_each.Given as goal

-- the addresses so far
abbrev pub invariant-loop-address : goal.invariant-loop-address
invariant-loop-address l = record {
  cells : map_cells cell_of (cells_of l.memory) ≡ over (map_cells cell_of (cells_of l.initial.memory)) (zero_cells l.relocs l.low l.address);
  most : l.address ≤ max l.low l.high;
}
