-- The rewrites that keep a graph in reach.
use Rattle.sq_layout.specs.Reach.{KeepReach}
use Rattle.sq_layout.proofs.Shrinking.{shrunk_in_reach}
use Rattle.sq_layout.proofs.Splitting.{split_in_reach}
use Rattle.sq_layout.proofs.Weighing.{nearer_by}

pub keep_reach : KeepReach
keep_reach = record {
  shrink = shrunk_in_reach;
  split = split_in_reach;
  lighten = λ heavy light g from to less cover reach. nearer_by heavy light less g from to cover reach;
}
