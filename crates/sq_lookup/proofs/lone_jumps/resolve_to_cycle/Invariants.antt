use Rattle.std.proofs.Common.{◌≡◌, ◌-◌, length}
use Rattle.sq_graph.specs.Blocks.{HasBlock}
use Rattle.sq_graph.specs.Resolve.{resolved_within, resolved}
use Rattle.sq_lookup.proofs.lone_jumps.resolve_to_cycle.Given as goal

abbrev pub invariant-loop-hop : goal.invariant-loop-hop
invariant-loop-hop l = record {
  there : HasBlock l.graph.graph l.at;
  same : resolved l.graph.graph l.block ≡ resolved_within l.graph.graph (length l.graph.graph.blocks - l._hop) l.at;
}
