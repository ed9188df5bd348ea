use Rattle.std.proofs.Common.{◌≡◌, true, subst, OnOk}
use Rattle.sq_pages.specs.Pages.{has_each}
use Rattle.sq_pages.proofs.Sheets.{within_of, page_kept, page_is}
use Rattle.sq_pages.proofs.pages.Pages.own.Goals as goal

pub returns-clause-cells : goal.returns-clause-cells
returns-clause-cells g c =
    let within = within_of c.self.inside.pages.items c.args.self.now c.args.page c.self.view_is c.requires in
    page_kept c.self.inside.pages.items c.args.self.now c.args.page c.index_mut.result.now c.own.new.self c.self.view_is within c.index_mut.ensures.value c.own.ensures.cells

pub returns-clause-own : goal.returns-clause-own
returns-clause-own g c =
    let within = within_of c.self.inside.pages.items c.args.self.now c.args.page c.self.view_is c.requires in
    subst (λ s. OnOk c.own.result (has_each s ≡ true)) (page_is c.self.inside.pages.items c.args.self.now c.args.page c.index_mut.result.now c.own.new.self c.self.view_is within c.index_mut.ensures.value) c.own.ensures.own
