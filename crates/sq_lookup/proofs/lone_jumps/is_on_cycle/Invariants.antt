use Rattle.std.proofs.Common.{◌≡◌, ◌-◌, length}
use Rattle.sq_graph.specs.Blocks.{HasBlock}
use Rattle.sq_graph.specs.Resolve.{leads_to, is_on_cycle}
use Rattle.sq_lookup.proofs.Resolving.{IsPassed}
use Rattle.sq_lookup.proofs.lone_jumps.is_on_cycle.Given as goal

abbrev pub invariant-loop-hop : goal.invariant-loop-hop
invariant-loop-hop l = record {
  there : HasBlock l.graph.graph l.at;
  same : is_on_cycle l.graph.graph l.block ≡ leads_to l.graph.graph (length l.graph.graph.blocks - l.hop) l.at l.block;
  passed : IsPassed l.graph.graph l.mark l.at l.block;
}
