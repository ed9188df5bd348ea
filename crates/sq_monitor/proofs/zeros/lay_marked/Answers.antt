use Rattle.std.proofs.Common.{◌≡◌, ◌+◌, ◌*◌, min, max, ap, ap₂, ◌∙◌, arith}
use Rattle.sq_memory.specs.Cells.{map_cells}
use Rattle.sq_pages.specs.Pages.{cells_of, over}
use Rattle.sq_pages.proofs.Laying.{over_twice}
use Rattle.sq_tagged.specs.Views.{cell_of}
use Rattle.sq_monitor.specs.Zeros.{marked_zeros}
use Rattle.sq_monitor.proofs.ZeroCells.{marked_none, marked_more}
use Rattle.sq_monitor.proofs.zeros.lay_marked.Goals as goal

pub loop-page-init : goal.loop-page-init
loop-page-init c = marked_none c.args.relocs.now c.args.pages.now (map_cells cell_of (cells_of c.args.memory.now)) c.args.low _ (omega arith)

pub loop-page-preserved : goal.loop-page-preserved
loop-page-preserved c =
    let marked = c.args.relocs.now in
    let pages = c.args.pages.now in
    let m = map_cells cell_of (cells_of c.args.memory.now) in
    let q = 4096 * c.loop-page.page in
    let from : c.max-from.result ≡ max c.args.low q = c.max-from.ensures in
    let to : c.min-to.result ≡ min c.args.high (q + 4096) = c.min-to.ensures in
    let next : q + 4096 ≡ 4096 * (c.loop-page.page + 1) = omega arith in
    c.in_ok-lay_part.ensures
    ∙ ap₂ (λ x y. over (map_cells cell_of (cells_of c.loop-page.memory)) (marked_zeros marked pages x y)) from to
    ∙ ap (λ k. over k (marked_zeros marked pages (max c.args.low q) (min c.args.high (q + 4096)))) c.loop-page.invariant
    ∙ over_twice m (marked_zeros marked pages c.args.low (min c.args.high q)) (marked_zeros marked pages (max c.args.low q) (min c.args.high (q + 4096)))
    ∙ ap (over m) (marked_more marked pages c.args.low c.args.high q)
    ∙ ap (λ x. over m (marked_zeros marked pages c.args.low (min c.args.high x))) next
