use Rattle.sq_jumps.proofs.ShortenRuns.{IsFoundFirst}
use Rattle.sq_jumps.proofs.shorten.shortable_first.Given as goal

abbrev pub invariant-loop-count : goal.invariant-loop-count
invariant-loop-count l = IsFoundFirst l.graph.graph l.blocks l.count l.found
