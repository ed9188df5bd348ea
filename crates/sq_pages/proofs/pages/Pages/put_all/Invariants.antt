use Rattle.std.proofs.Common.{◌≡◌, ℕ, true, length, take}
use Rattle.sq_memory.specs.Cells.{with_cells}
use Rattle.sq_pages.specs.Pages.{cells_of, is_ready, AreReady}
use Rattle.sq_pages.proofs.pages.Pages.put_all.Given as goal

abbrev pub invariant-loop-i : goal.invariant-loop-i
invariant-loop-i g l = record {
  cells : cells_of l.self ≡ with_cells (cells_of l.initial.self) l.address (take l.i l.cells);
  ready : AreReady l.self l.address (length l.cells);
  still : (x : ℕ) → is_ready l.initial.self x ≡ true → is_ready l.self x ≡ true;
}
