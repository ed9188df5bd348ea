use Rattle.std.proofs.Common.{◌≡◌, map, take}
use Rattle.sq_tagged.specs.Views.{cell_of}
use Rattle.sq_monitor.specs.FileCells.{file_cells}
use Rattle.sq_monitor.proofs.cells.file_cells.Given as goal

-- the cells so far
abbrev pub invariant-loop-i : goal.invariant-loop-i
invariant-loop-i l = map cell_of l.cells.items ≡ file_cells l.relocs l.x (take l.i l.bytes)
