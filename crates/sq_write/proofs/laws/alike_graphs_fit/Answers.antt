use Rattle.sq_write.proofs.AlikeGraphs.{alike_fit}
use Rattle.sq_write.proofs.laws.alike_graphs_fit.Goals as goal

pub returns : goal.returns
returns c = λ g h rules alike. alike_fit g h rules alike
