use Rattle.sq_pages.specs.Pages.{cells_of}
use Rattle.sq_pages.proofs.Writing.{write_step}
use Rattle.sq_pages.proofs.pages.Pages.put_all.Goals as goal

pub loop-i-preserved : goal.loop-i-preserved
loop-i-preserved g c = record {
  cells = write_step (cells_of c.args.self.now) c.args.address c.args.cells.now c.loop-i.i c.index-cells-i.result (cells_of c.loop-i.self) (cells_of c.put.new.self) c.loop-i-test.true c.index-cells-i.is c.loop-i.invariant.cells c.put.ensures.cells;
  ready = λ j h. c.put.ensures.still _ (c.loop-i.invariant.ready j h);
  still = λ x h. c.put.ensures.still x (c.loop-i.invariant.still x h);
}
