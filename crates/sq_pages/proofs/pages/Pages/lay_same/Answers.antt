use Rattle.std.proofs.Common.{◌≡◌, ◌+◌, ◌*◌, min, max, ap, ◌∙◌, arith}
use Rattle.sq_pages.specs.Pages.{cells_of, over, same_cell}
use Rattle.sq_pages.proofs.Laying.{over_keeps, keeps_over, over_twice, pages_more}
use Rattle.sq_pages.proofs.pages.Pages.lay_same.Goals as goal

pub returns-in_err-lay_part-clause-kept : goal.returns-in_err-lay_part-clause-kept
returns-in_err-lay_part-clause-kept g c =
    keeps_over (cells_of c.args.self.now) (same_cell c.args.low (min c.args.high (4096 * c.loop-page.page)) c.args.cell) (cells_of c.loop-page.self) (cells_of c.lay_part.new.self) c.loop-page.invariant c.lay_part.ensures.kept

pub loop-page-preserved : goal.loop-page-preserved
loop-page-preserved g c =
    let m = cells_of c.args.self.now in
    let q = 4096 * c.loop-page.page in
    let from : c.max-from.result ≡ max c.args.low q = c.max-from.ensures in
    let to : c.min-to.result ≡ min c.args.high (q + 4096) = c.min-to.ensures in
    let next : q + 4096 ≡ 4096 * (c.loop-page.page + 1) = omega arith in
    c.in_ok-lay_part.ensures.cells
    ∙ ap (λ k. over k (same_cell c.max-from.result c.min-to.result c.args.cell)) c.loop-page.invariant
    ∙ over_twice m (same_cell c.args.low (min c.args.high q) c.args.cell) (same_cell c.max-from.result c.min-to.result c.args.cell)
    ∙ ap (λ x. over m (over (same_cell c.args.low (min c.args.high q) c.args.cell) (same_cell x c.min-to.result c.args.cell))) from
    ∙ ap (λ x. over m (over (same_cell c.args.low (min c.args.high q) c.args.cell) (same_cell (max c.args.low q) x c.args.cell))) to
    ∙ ap (over m) (pages_more c.args.low c.args.high q c.args.cell)
    ∙ ap (λ x. over m (same_cell c.args.low (min c.args.high x) c.args.cell)) next

pub returns-clause-kept : goal.returns-clause-kept
returns-clause-kept g c =
    over_keeps (cells_of c.args.self.now) (same_cell c.args.low (min c.args.high (4096 * c.loop-page.page)) c.args.cell) (cells_of c.loop-page.self) c.loop-page.invariant
