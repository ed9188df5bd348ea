use Rattle.std.proofs.Common.{sym, ap, ◌∙◌}
use Rattle.sq_pages.specs.Pages.{sheet_of, sheet_cell}
use Rattle.sq_pages.proofs.Sheets.{same_at}
use Rattle.sq_pages.proofs.page.Page.own.Goals as goal

pub returns-in_ok-entries-clause-cells : goal.returns-in_ok-entries-clause-cells
returns-in_ok-entries-clause-cells g c = λ i h.
    same_at c.in_ok-entries.field-0.items _ c.in_ok-entries.ensures i h ∙ ap (λ p. sheet_cell (sheet_of p) i) (sym c.in-Same.is)
