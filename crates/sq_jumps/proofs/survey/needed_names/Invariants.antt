use Rattle.sq_jumps.proofs.Surveying.{IsGathered}
use Rattle.sq_jumps.proofs.survey.needed_names.Given as goal

abbrev pub invariant-loop-name : goal.invariant-loop-name
invariant-loop-name l = IsGathered l.graph.graph l.names l.name-index l.needed
