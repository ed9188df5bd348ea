use Rattle.std.proofs.Common.{◌≡◌, drop}
use Rattle.sq_graph.specs.Packed.{cut_slots}
use Rattle.sq_graph.proofs.trim.trim_slots.Given as goal

abbrev pub invariant-loop-name : goal.invariant-loop-name
invariant-loop-name l = record {
  same : cut_slots l.most l.names l.fn.slots.entries ≡ cut_slots l.most (drop l.name-index l.names) l.slots.entries;
  spare : l.slots.spare ≡ l.fn.slots.spare;
}
