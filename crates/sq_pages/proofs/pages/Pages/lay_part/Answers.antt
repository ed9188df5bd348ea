use Rattle.std.proofs.Common.{◌+◌, ◌*◌}
use Rattle.sq_pages.specs.Pages.{cells_of, same_cell}
use Rattle.sq_pages.proofs.Laying.{keeps_either}
use Rattle.sq_pages.proofs.pages.Pages.lay_part.Goals as goal

pub returns-then-high-start-clause-kept : goal.returns-then-high-start-clause-kept
returns-then-high-start-clause-kept g c =
    keeps_either c.lay_page.result (cells_of c.args.self.now) (same_cell (4096 * c.args.page) (4096 * c.args.page + 4096) c.args.cell) (cells_of c.lay_page.new.self) c.lay_page.ensures.cells c.lay_page.ensures.kept
