use Rattle.sq_pages.specs.Pages.{cells_of}
use Rattle.sq_monitor.proofs.ZeroCells.{zeros_laid}
use Rattle.sq_monitor.proofs.zeros.lay_zeros.Goals as goal

pub returns : goal.returns
returns c =
    zeros_laid c.args.relocs.now c.args.pages.now c.args.low c.args.high (cells_of c.args.memory.now) (cells_of c.lay_marked.new.memory) (cells_of c.lay_same.new.self) c.requires.marks c.in_ok-lay_marked.ensures c.in_ok-lay_same.ensures.cells
