use Rattle.std.proofs.Common.{◌≡◌, ◌++◌, drop}
use Rattle.sq_quotient.specs.Staying.{stays_in, place_in, parts_of, items_left}
use Rattle.sq_quotient.proofs.folding.blocks.Given as goal

abbrev pub invariant-loop-name : goal.invariant-loop-name
invariant-loop-name l = record {
  parts : l.parts.items ++ parts_of (place_in l.folding) (stays_in l.folding.staying) (drop l.name-index l.graph.graph.blocks) ≡ parts_of (place_in l.folding) (stays_in l.folding.staying) l.graph.graph.blocks;
  items : l.items.items ++ items_left (place_in l.folding) (stays_in l.folding.staying) (drop l.name-index l.graph.graph.blocks) ≡ items_left (place_in l.folding) (stays_in l.folding.staying) l.graph.graph.blocks;
}
