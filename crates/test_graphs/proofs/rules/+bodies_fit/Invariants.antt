use Rattle.std.proofs.Common.{length}
use Rattle.test_graphs.proofs.rules.+bodies_fit.Given as goal

abbrev pub decreases-bodies_fit : goal.decreases-bodies_fit
decreases-bodies_fit l = length l.procedures.now
