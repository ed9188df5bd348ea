use Rattle.std.proofs.Common.{map, Some, None, ap, ◌∙◌}
use Rattle.sq_pages.specs.Pages.{cells_of}
use Rattle.sq_tagged.specs.Views.{store_of, cell_of}
use Rattle.sq_tagged.proofs.CellLists.{buffer_cells}
use Rattle.sq_tagged.proofs.store.Store.buffer.Goals as goal

pub returns-in-Some : goal.returns-in-Some
unfolding store_of
returns-in-Some c =
    buffer_cells (cells_of c.args.self.now.memory) c.args.x c.args.n (Some c.in-Some.cells.items) (rw c.in-Some.is at c.in_ok-cells.ensures)

pub returns-in-None : goal.returns-in-None
unfolding store_of
returns-in-None c =
    ap (map cell_of) c.new.ensures.items ∙ buffer_cells (cells_of c.args.self.now.memory) c.args.x c.args.n None (rw c.in-None.is at c.in_ok-cells.ensures)
