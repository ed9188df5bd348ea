use Rattle.std.proofs.Common.{ap, ◌∙◌}
use Rattle.sq_pages.specs.Pages.{cells_of, sheet_of}
use Rattle.sq_pages.proofs.Sheets.{within_of, page_filled}
use Rattle.sq_pages.proofs.Laying.{page_over}
use Rattle.sq_pages.proofs.pages.Pages.fill_page.Goals as goal

pub returns : goal.returns
returns g c =
    let within = within_of c.self.inside.pages.items c.args.self.now c.args.page c.self.view_is c.requires in
    let f = page_filled c.self.inside.pages.items c.args.self.now c.args.page c.index_mut.result.now c.fill_all.new.self c.self.view_is within c.index_mut.ensures.value c.args.cell c.fill_all.ensures.cells in
    ap cells_of f.0 ∙ page_over c.args.self.now c.args.page (sheet_of c.fill_all.new.self) c.args.cell f.1 f.2
