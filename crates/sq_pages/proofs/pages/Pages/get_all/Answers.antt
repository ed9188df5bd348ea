use Rattle.std.proofs.Common.{sym, ap, ◌∙◌, Some}
use Rattle.sq_memory.proofs.RangeLaws.{cells_from-more, cells_from-none}
use Rattle.sq_pages.specs.Pages.{cells_of}
use Rattle.sq_pages.proofs.pages.Pages.get_all.Goals as goal

pub returns-in-None : goal.returns-in-None
returns-in-None g c = sym (cells_from-none (cells_of c.args.self.now) c.args.address c.args.count c.loop-i.i c.loop-i-test.true (sym c.get.ensures ∙ c.in-None.is))

pub loop-i-preserved : goal.loop-i-preserved
loop-i-preserved g c =
    cells_from-more c.loop-i.i (cells_of c.args.self.now) c.args.address c.loop-i.cells.items c.in-Some.cell c.loop-i.invariant (sym c.get.ensures ∙ c.in-Some.is)
    ∙ ap Some (sym c.in_ok-push-in-Some.ensures.items)
