use Rattle.std.proofs.Common.{◌≡◌, take}
use Rattle.sq_memory.specs.Regions.{region_cell}
use Rattle.sq_pages.specs.Pages.{cells_of, over}
use Rattle.sq_pages.proofs.pages.Pages.lay_all.Given as goal

abbrev pub invariant-loop-i : goal.invariant-loop-i
invariant-loop-i g l = cells_of l.self ≡ over (cells_of l.initial.self) (region_cell (record { start = l.address; cells = take l.i l.cells }))
