use Rattle.std.proofs.Common.{◌++◌, ℕ, ◌≤◌, length}
use Rattle.std.specs.List.{Contains}
use Rattle.sq_live.specs.Search.{list_at, IsVisiting, up_to, work_of}
use Rattle.sq_live.specs.Sources.{sources_of, chain, IsWithin}
use Rattle.sq_live.proofs.Chains.{ahead}
use Rattle.sq_live.proofs.search.visit.Given as goal

abbrev pub invariant-loop-at : goal.invariant-loop-at
invariant-loop-at l = record {
  within : IsWithin (length l.sources.edges.items) l.at;
  left : (from : ℕ) → Contains (chain l.sources.edges.items (length l.sources.edges.items) l.at) from → Contains (list_at (sources_of l.sources) l.node) from;
  search : IsVisiting l.effects (sources_of l.sources) l.node (chain l.sources.edges.items (length l.sources.edges.items) l.at) l.sets.items (up_to l.later ++ l.waiting.items);
  work : work_of l.sets.items l.waiting.items ≤ work_of l.initial.sets.items l.initial.waiting.items;
}

abbrev pub decreases-loop-at : goal.decreases-loop-at
decreases-loop-at l = ahead l.at
