use Rattle.std.proofs.Common.{◌≡◌, take}
use Rattle.sq_graph.specs.Aims.{aimed_each}
use Rattle.sq_graph.proofs.redirect.aim_each.Given as goal

abbrev pub invariant-loop-block : goal.invariant-loop-block
invariant-loop-block l = record {
  entries : l.slots.entries ≡ aimed_each (take l.block-index l.blocks) l.fn.slots.entries;
  spare : l.slots.spare ≡ l.fn.slots.spare;
}
