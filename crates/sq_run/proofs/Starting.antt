-- What the machine starts with is what the file's image says.
use Rattle.std.proofs.Common.{◌≡◌, ℕ, List, map, sym, ap, subst}
use Rattle.sq_elf.specs.Headers.{entry_of}
use Rattle.sq_system.specs.Starts.{Start, IsBadStart}
use Rattle.sq_machine.specs.Starts.{StartPiece, extent_of, world_at_start, state_at_start}
use Rattle.sq_run.specs.FileRuns.{pieces_of, file_world, file_state, IsBadFileStart}

module _ (file : List ℕ) (pieces : List StartPiece) (start : Start) (same : pieces ≡ pieces_of file) where
  pub world_is : world_at_start pieces start ≡ file_world file start
  unfolding file_world
  world_is = ap (λ ps. world_at_start ps start) same

  pub state_is : state_at_start (entry_of file) pieces start ≡ file_state file start
  unfolding file_state
  state_is = ap (λ ps. state_at_start (entry_of file) ps start) same

  pub bad_is : IsBadStart (map extent_of pieces) start → IsBadFileStart file start
  unfolding IsBadFileStart
  bad_is bad = subst (λ ps. IsBadStart (map extent_of ps) start) same bad

  pub bad_back : IsBadFileStart file start → IsBadStart (map extent_of pieces) start
  unfolding IsBadFileStart
  bad_back bad = subst (λ ps. IsBadStart (map extent_of ps) start) (sym same) bad
