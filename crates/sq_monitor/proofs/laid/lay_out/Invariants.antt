use Rattle.std.proofs.Common.{◌≡◌}
use Rattle.std.specs.List.{flat_map}
use Rattle.sq_memory.specs.Cells.{map_cells}
use Rattle.sq_memory.specs.Regions.{get}
use Rattle.sq_pages.specs.Pages.{cells_of}
use Rattle.sq_elf.specs.Memory.{segments_before}
use Rattle.sq_tagged.specs.Views.{cell_of}
use Rattle.sq_monitor.specs.FileCells.{segment_regions, segment_layout}
use Rattle.sq_monitor.proofs.laid.lay_out.Given as goal

-- the segments so far
abbrev pub invariant-loop-index : goal.invariant-loop-index
invariant-loop-index l = record {
  pieces : l.laid.pieces.items ≡ flat_map (segment_layout l.bytes) (segments_before l.bytes l.index);
  memory : map_cells cell_of (cells_of l.laid.memory) ≡ get (flat_map (segment_regions l.relocs l.bytes) (segments_before l.bytes l.index));
}
