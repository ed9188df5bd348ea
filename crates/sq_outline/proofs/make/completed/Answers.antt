use Rattle.std.proofs.Common.{arith}
use Rattle.sq_outline.proofs.Choosing.{saving_fits}
use Rattle.sq_outline.proofs.make.completed.Goals as goal

pub overflow_mul-saving : goal.overflow_mul-saving
overflow_mul-saving c =
    let fits = saving_fits c.args.graph.now.graph _ c.args.link c.learn.ensures.rules c.learn.ensures.few c.requires.made c.as_slice-blocks.result.now c.items.result.now c.as_slice-blocks.ensures c.items.ensures in
    omega arith

pub overflow_cast-saving : goal.overflow_cast-saving
overflow_cast-saving c =
    let fits = saving_fits c.args.graph.now.graph _ c.args.link c.learn.ensures.rules c.learn.ensures.few c.requires.made c.as_slice-blocks.result.now c.items.result.now c.as_slice-blocks.ensures c.items.ensures in
    omega arith
