use Rattle.std.proofs.Common.{◌≡◌, ℕ, true}
use Rattle.sq_pages.specs.Pages.{cells_of, is_ready, AreReady}
use Rattle.sq_pages.proofs.pages.Pages.make_ready.Given as goal

-- the addresses so far are ready
abbrev pub invariant-loop-i : goal.invariant-loop-i
invariant-loop-i g l = record {
  cells : cells_of l.self ≡ cells_of l.initial.self;
  ready : AreReady l.self l.address l.i;
  still : (x : ℕ) → is_ready l.initial.self x ≡ true → is_ready l.self x ≡ true;
}
