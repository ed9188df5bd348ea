use Rattle.std.proofs.Common.{◌<◌, length, subst, ◌∙◌}
use Rattle.sq_pages.proofs.Sheets.{page_kept, ready_kept, ready_now}
use Rattle.sq_pages.proofs.pages.Pages.make_ready_at.Goals as goal

pub returns-in_err-make_ready-clause-cells : goal.returns-in_err-make_ready-clause-cells
returns-in_err-make_ready-clause-cells g c =
    let within : c.page_of-page.result < length c.self.inside.pages.items = subst (λ n. c.page_of-page.result < n) (c.len.ensures ∙ c.self.inside.pages.ok.0) c.if-page-len.true in
    page_kept c.self.inside.pages.items c.args.self.now c.page_of-page.result c.index_mut.result.now c.make_ready.new.self c.self.view_is within c.index_mut.ensures.value c.make_ready.ensures.cells

pub returns-in_err-make_ready-clause-still : goal.returns-in_err-make_ready-clause-still
returns-in_err-make_ready-clause-still g c =
    let within : c.page_of-page.result < length c.self.inside.pages.items = subst (λ n. c.page_of-page.result < n) (c.len.ensures ∙ c.self.inside.pages.ok.0) c.if-page-len.true in
    ready_kept c.self.inside.pages.items c.args.self.now c.page_of-page.result c.index_mut.result.now c.make_ready.new.self c.self.view_is within c.index_mut.ensures.value c.make_ready.ensures.still

pub returns-in_ok-make_ready-clause-cells : goal.returns-in_ok-make_ready-clause-cells
returns-in_ok-make_ready-clause-cells g c =
    let within : c.page_of-page.result < length c.self.inside.pages.items = subst (λ n. c.page_of-page.result < n) (c.len.ensures ∙ c.self.inside.pages.ok.0) c.if-page-len.true in
    page_kept c.self.inside.pages.items c.args.self.now c.page_of-page.result c.index_mut.result.now c.make_ready.new.self c.self.view_is within c.index_mut.ensures.value c.make_ready.ensures.cells

pub returns-in_ok-make_ready-clause-ready : goal.returns-in_ok-make_ready-clause-ready
returns-in_ok-make_ready-clause-ready g c =
    let within : c.page_of-page.result < length c.self.inside.pages.items = subst (λ n. c.page_of-page.result < n) (c.len.ensures ∙ c.self.inside.pages.ok.0) c.if-page-len.true in
    ready_now c.self.inside.pages.items c.args.self.now c.page_of-page.result c.index_mut.result.now c.make_ready.new.self c.self.view_is within c.index_mut.ensures.value c.in_ok-make_ready.ensures.ready c.args.address c.page_of-page.ensures

pub returns-in_ok-make_ready-clause-still : goal.returns-in_ok-make_ready-clause-still
returns-in_ok-make_ready-clause-still g c =
    let within : c.page_of-page.result < length c.self.inside.pages.items = subst (λ n. c.page_of-page.result < n) (c.len.ensures ∙ c.self.inside.pages.ok.0) c.if-page-len.true in
    ready_kept c.self.inside.pages.items c.args.self.now c.page_of-page.result c.index_mut.result.now c.make_ready.new.self c.self.view_is within c.index_mut.ensures.value c.make_ready.ensures.still
