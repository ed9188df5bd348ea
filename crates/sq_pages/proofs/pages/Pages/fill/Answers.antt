use Rattle.std.proofs.Common.{◌<◌, length, Some, sym, subst, ◌∙◌}
use Rattle.sq_memory.specs.Regions.{or_else}
use Rattle.sq_pages.specs.Pages.{cells_of}
use Rattle.sq_pages.proofs.Sheets.{within_of, place_changed}
use Rattle.sq_pages.proofs.Laying.{one_over}
use Rattle.sq_pages.proofs.pages.Pages.fill.Goals as goal

pub returns : goal.returns
returns g c =
    let there : c.page_of-page.result < length c.args.self.now = subst (λ p. p < length c.args.self.now) (sym c.page_of-page.ensures) c.requires.there in
    let within = within_of c.self.inside.pages.items c.args.self.now c.page_of-page.result c.self.view_is there in
    place_changed c.self.inside.pages.items c.args.self.now c.page_of-page.result c.index_mut.result.now c.fill.new.self c.self.view_is within c.index_mut.ensures.value
    c.args.address c.place_of.result c.page_of-page.ensures c.place_of.ensures.value (λ o. or_else o (Some c.args.cell)) c.fill.ensures.cells
    ∙ one_over (cells_of c.args.self.now) c.args.address c.args.cell
