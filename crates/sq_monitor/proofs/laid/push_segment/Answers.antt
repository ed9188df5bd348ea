use Rattle.std.proofs.Common.{◌<◌, ◌≤◌, arith}
use Rattle.sq_memory.specs.Cells.{map_cells}
use Rattle.sq_pages.specs.Pages.{cells_of}
use Rattle.sq_elf.specs.Segments.{copy_size}
use Rattle.sq_tagged.specs.Views.{cell_of}
use Rattle.sq_monitor.proofs.Regions.{with_copy, without_copy}
use Rattle.sq_monitor.proofs.laid.push_segment.Goals as goal

pub returns-in_ok-push_copy-clause-memory : goal.returns-in_ok-push_copy-clause-memory
returns-in_ok-push_copy-clause-memory c =
    let some : 0 < copy_size c.args.segment.now = omega (arith, c.copy_size.ensures, c.if-copy_size-gt0.true) in
    with_copy c.args.relocs.now c.args.bytes.now c.args.segment.now c.file_bytes-part.result.now c.file_bytes-part.ensures.value
    (map_cells cell_of (cells_of c.args.laid.now.memory)) (map_cells cell_of (cells_of c.push_own.new.laid.memory)) (map_cells cell_of (cells_of c.push_copy.new.laid.memory)) some c.in_ok-push_own.ensures.memory c.in_ok-push_copy.ensures.memory

pub returns-else-copy_size-gt0-clause-memory : goal.returns-else-copy_size-gt0-clause-memory
returns-else-copy_size-gt0-clause-memory c =
    let none : copy_size c.args.segment.now ≤ 0 = omega (arith, c.copy_size.ensures, c.if-copy_size-gt0.false) in
    without_copy c.args.relocs.now c.args.bytes.now c.args.segment.now c.file_bytes-part.result.now c.file_bytes-part.ensures.value
    (map_cells cell_of (cells_of c.args.laid.now.memory)) (map_cells cell_of (cells_of c.push_own.new.laid.memory)) none c.in_ok-push_own.ensures.memory
