use Rattle.sq_graph.proofs.AlikeGraphs.{alike_rules}
use Rattle.sq_graph.proofs.laws.alike_laws.Goals as goal

pub returns-clause-rules : goal.returns-clause-rules
returns-clause-rules c = alike_rules
