use Rattle.std.proofs.Common.{◌≡◌, length}
use Rattle.sq_live.specs.Exits.{position_at, exits_of}
use Rattle.sq_live.specs.Sources.{sources_of, IsChained, AreSources}
use Rattle.sq_live.proofs.sources.add_blocks.Given as goal

abbrev pub invariant-loop-k : goal.invariant-loop-k
invariant-loop-k l = record {
  chained : IsChained l.sources;
  count : length (sources_of l.sources) ≡ length (sources_of l.initial.sources);
  sources : AreSources (exits_of (position_at l.positions) (length l.names) l.g.graph) (sources_of l.sources) l.k;
}
