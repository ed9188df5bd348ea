use Rattle.std.proofs.Common.{◌≤◌, ap, ◌∙◌, arith}
use Rattle.sq_memory.specs.Cells.{map_cells}
use Rattle.sq_pages.specs.Pages.{cells_of, over}
use Rattle.sq_tagged.specs.Views.{cell_of}
use Rattle.sq_monitor.proofs.ZeroCells.{zero_none, lay_step, zero_end}
use Rattle.sq_monitor.proofs.zeros.lay_each.Goals as goal

pub loop-address-init : goal.loop-address-init
loop-address-init c = record {
  cells = zero_none c.args.relocs.now (map_cells cell_of (cells_of c.args.memory.now)) c.args.low c.args.low (omega arith);
  most = omega arith;
}

pub loop-address-preserved : goal.loop-address-preserved
loop-address-preserved c =
    let from : c.args.low ≤ c.loop-address.address = omega (arith, c.loop-address.auto) in
    record {
      cells = lay_step c.args.relocs.now (cells_of c.args.memory.now) (cells_of c.loop-address.memory) (cells_of c.lay.new.self) c.args.low c.loop-address.address c.file_cell.result from c.file_cell.ensures c.loop-address.invariant.cells c.in_ok-lay.ensures.cells;
      most = omega (arith, c.loop-address-test);
    }

pub returns : goal.returns
returns c =
    let past : c.args.high ≤ c.loop-address.address = omega (arith, c.loop-address-test) in
    c.loop-address.invariant.cells ∙ ap (over (map_cells cell_of (cells_of c.args.memory.now))) (zero_end c.args.relocs.now c.args.low c.args.high c.loop-address.address past c.loop-address.invariant.most)
