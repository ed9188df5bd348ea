use Rattle.std.proofs.Common.{◌≡◌, ℕ, true, nat_lt, Some, if◌then◌else◌}
use Rattle.sq_memory.specs.Regions.{or_else}
use Rattle.sq_pages.specs.Pages.{sheet_of, sheet_cell, has_each, IsWhole}
use Rattle.sq_pages.proofs.page.Page.fill_each.Given as goal

-- the places so far
abbrev pub invariant-loop-place : goal.invariant-loop-place
invariant-loop-place g l = record {
  own : has_each (sheet_of l.self) ≡ true;
  whole : IsWhole (sheet_of l.self);
  cells : (i : ℕ) → sheet_cell (sheet_of l.self) i ≡ (if nat_lt i l.place then or_else (sheet_cell (sheet_of l.initial.self) i) (Some l.cell) else sheet_cell (sheet_of l.initial.self) i);
}
