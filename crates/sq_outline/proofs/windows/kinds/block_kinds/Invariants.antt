use Rattle.std.proofs.Common.{◌≡◌, map, take}
use Rattle.std.specs.List.{All}
use Rattle.sq_graph.specs.Blocks.{items_of}
use Rattle.sq_graph.specs.Parts.{names_of}
use Rattle.sq_outline.specs.WindowsKinds.{HasKinds}
use Rattle.sq_outline.specs.declared.windows.kinds.BlockKinds.{BlockKinds}
use Rattle.sq_outline.proofs.windows.kinds.block_kinds.Given as goal

abbrev pub invariant-loop-name : goal.invariant-loop-name
invariant-loop-name l = record {
  all : l.name-items ≡ names_of l.graph.graph;
  names : map (λ (block : BlockKinds). block.name) l.blocks.items ≡ take l.name-index l.name-items;
  kinds : All (λ (block : BlockKinds). HasKinds (items_of l.graph.graph block.name) block.kinds) l.blocks.items;
}
