use Rattle.std.proofs.Common.{◌≡◌, ◌<◌, ℕ, Some, slice_get}
use Rattle.sq_rename.specs.Inverses.{AreInverse}
use Rattle.sq_rename.proofs.renaming.Renaming.from_pairs.Given as goal

abbrev pub invariant-loop-number : goal.invariant-loop-number
invariant-loop-number l = record {
  inverse : AreInverse l.to l.from;
  pairs : (r s : ℕ) → r < l.number → slice_get l.there r ≡ Some (Some s) → slice_get l.to r ≡ Some s;
}
