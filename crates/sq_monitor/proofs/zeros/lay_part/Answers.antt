use Rattle.std.proofs.Common.{◌≡◌, nat_eq, true, false, OnOk, sym, subst, ◌∙◌}
use Rattle.std.specs.HashSet as set
use Rattle.sq_memory.specs.Cells.{map_cells}
use Rattle.sq_pages.specs.Pages.{cells_of, over}
use Rattle.sq_tagged.specs.Views.{cell_of}
use Rattle.sq_monitor.proofs.ZeroCells.{marked_page, unmarked_page}
use Rattle.sq_monitor.proofs.zeros.lay_part.Goals as goal

pub returns-then-contains : goal.returns-then-contains
returns-then-contains c =
    let has : set.contains nat_eq c.args.pages.now c.args.page ≡ true = sym c.contains.ensures ∙ c.if-contains.true in
    subst (λ zeros. OnOk c.lay_each.result (map_cells cell_of (cells_of c.lay_each.new.memory) ≡ over (map_cells cell_of (cells_of c.args.memory.now)) zeros))
    (marked_page c.args.relocs.now c.args.pages.now c.args.page c.args.low c.args.high c.requires.low c.requires.most has) c.lay_each.ensures

pub returns-else-contains : goal.returns-else-contains
returns-else-contains c =
    let has : set.contains nat_eq c.args.pages.now c.args.page ≡ false = sym c.contains.ensures ∙ c.if-contains.false in
    unmarked_page c.args.relocs.now c.args.pages.now (map_cells cell_of (cells_of c.args.memory.now)) c.args.page c.args.low c.args.high c.requires.low c.requires.most has
