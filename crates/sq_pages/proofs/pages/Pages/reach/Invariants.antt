use Rattle.std.proofs.Common.{◌≡◌, length}
use Rattle.sq_pages.specs.Pages.{cells_of}
use Rattle.sq_pages.proofs.pages.Pages.reach.Given as goal

-- so many pages are there
abbrev pub invariant-loop-page : goal.invariant-loop-page
invariant-loop-page g l = record {
  cells : cells_of l.self ≡ cells_of l.initial.self;
  count : length l.self ≡ l._page;
}
