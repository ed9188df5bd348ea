use Rattle.std.proofs.Common.{◌≡◌, length, take}
use Rattle.sq_live.specs.Exits.{position_at, nodes_of}
use Rattle.sq_live.specs.Sources.{sources_of, IsChained, AddsTo}
use Rattle.sq_live.proofs.sources.add_targets.Given as goal

abbrev pub invariant-loop-name : goal.invariant-loop-name
invariant-loop-name l = record {
  chained : IsChained l.sources;
  count : length (sources_of l.sources) ≡ length (sources_of l.initial.sources);
  adds : AddsTo (sources_of l.initial.sources) (sources_of l.sources) (length l.names) (nodes_of (position_at l.positions) (take l.name-index l.name-items));
}
