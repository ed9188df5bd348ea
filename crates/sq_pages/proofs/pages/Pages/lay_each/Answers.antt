use Rattle.std.proofs.Common.{◌≡◌, ◌+◌, ◌≤◌, ap, ◌∙◌, arith}
use Rattle.sq_pages.specs.Pages.{cells_of, over, same_cell, one_cell}
use Rattle.sq_pages.proofs.Laying.{over_keeps, over_twice, same_more, same_end}
use Rattle.sq_pages.proofs.pages.Pages.lay_each.Goals as goal

pub returns-in_err-lay-clause-kept : goal.returns-in_err-lay-clause-kept
returns-in_err-lay-clause-kept g c =
    over_keeps (cells_of c.args.self.now) (same_cell c.args.low c.loop-address.address c.args.cell) (cells_of c.lay.new.self) (c.in_err-lay.ensures.kept ∙ c.loop-address.invariant.cells)

pub loop-address-preserved : goal.loop-address-preserved
loop-address-preserved g c =
    let m = cells_of c.args.self.now in
    let at = c.loop-address.address in
    let from : c.args.low ≤ at = omega (arith, c.loop-address.auto) in
    let cells : cells_of c.lay.new.self ≡ over m (same_cell c.args.low (at + 1) c.args.cell) = c.in_ok-lay.ensures.cells ∙ ap (λ k. over k (one_cell at c.args.cell)) c.loop-address.invariant.cells
    ∙ over_twice m (same_cell c.args.low at c.args.cell) (one_cell at c.args.cell) ∙ ap (over m) (same_more c.args.low at c.args.cell from) in
    record { cells = cells; most = omega (arith, c.loop-address-test) }

pub returns-clause-cells : goal.returns-clause-cells
returns-clause-cells g c =
    let past : c.args.high ≤ c.loop-address.address = omega (arith, c.loop-address-test) in
    c.loop-address.invariant.cells ∙ ap (over (cells_of c.args.self.now)) (same_end c.args.low c.args.high c.loop-address.address c.args.cell past c.loop-address.invariant.most)

pub returns-clause-kept : goal.returns-clause-kept
returns-clause-kept g c =
    over_keeps (cells_of c.args.self.now) (same_cell c.args.low c.loop-address.address c.args.cell) (cells_of c.loop-address.self) c.loop-address.invariant.cells
