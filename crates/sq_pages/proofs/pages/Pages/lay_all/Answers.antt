use Rattle.std.proofs.Common.{take, ◌∙◌}
use Rattle.sq_memory.specs.Regions.{region_cell}
use Rattle.sq_pages.specs.Pages.{cells_of}
use Rattle.sq_pages.proofs.Laying.{over_keeps}
use Rattle.sq_pages.proofs.Writing.{lay_step}
use Rattle.sq_pages.proofs.pages.Pages.lay_all.Goals as goal

pub returns-in_err-lay-clause-kept : goal.returns-in_err-lay-clause-kept
returns-in_err-lay-clause-kept g c =
    over_keeps (cells_of c.args.self.now) (region_cell (record { start = c.args.address; cells = take c.loop-i.i c.args.cells.now })) (cells_of c.lay.new.self) (c.in_err-lay.ensures.kept ∙ c.loop-i.invariant)

pub loop-i-preserved : goal.loop-i-preserved
loop-i-preserved g c =
    lay_step (cells_of c.args.self.now) c.args.address c.args.cells.now c.loop-i.i c.index-cells-i.result (cells_of c.loop-i.self) (cells_of c.lay.new.self) c.loop-i-test.true c.index-cells-i.is c.loop-i.invariant c.in_ok-lay.ensures.cells

pub returns-clause-kept : goal.returns-clause-kept
returns-clause-kept g c =
    over_keeps (cells_of c.args.self.now) (region_cell (record { start = c.args.address; cells = take c.loop-i.i c.args.cells.now })) (cells_of c.loop-i.self) c.loop-i.invariant
