use Rattle.sq_outline.proofs.WindowsTaking.{AreTaking}
use Rattle.sq_outline.proofs.windows.sweep.take_window.Given as goal

abbrev pub invariant-loop-at : goal.invariant-loop-at
invariant-loop-at l = AreTaking l.graph.graph l.n l.procedure l.sites l.fn.taken.fates.items l.at l.taken
