use Rattle.std.proofs.Common.{◌<◌, length, subst, ◌∙◌}
use Rattle.sq_memory.specs.Cells.{replaced}
use Rattle.sq_pages.proofs.Sheets.{place_changed, ready_kept}
use Rattle.sq_pages.proofs.pages.Pages.put.Goals as goal

pub returns-then-page-len-clause-cells : goal.returns-then-page-len-clause-cells
returns-then-page-len-clause-cells g c =
    let within : c.page_of-page.result < length c.self.inside.pages.items = subst (λ n. c.page_of-page.result < n) (c.len.ensures ∙ c.self.inside.pages.ok.0) c.if-page-len.true in
    place_changed c.self.inside.pages.items c.args.self.now c.page_of-page.result c.index_mut.result.now c.set.new.self c.self.view_is within c.index_mut.ensures.value
    c.args.address c.place_of.result c.page_of-page.ensures c.place_of.ensures.value (λ o. replaced o c.args.cell) c.set.ensures.cells

pub returns-then-page-len-clause-still : goal.returns-then-page-len-clause-still
returns-then-page-len-clause-still g c =
    let within : c.page_of-page.result < length c.self.inside.pages.items = subst (λ n. c.page_of-page.result < n) (c.len.ensures ∙ c.self.inside.pages.ok.0) c.if-page-len.true in
    ready_kept c.self.inside.pages.items c.args.self.now c.page_of-page.result c.index_mut.result.now c.set.new.self c.self.view_is within c.index_mut.ensures.value (λ h. c.set.ensures.ready)
