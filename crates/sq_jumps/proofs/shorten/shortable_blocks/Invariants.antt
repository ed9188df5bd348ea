use Rattle.sq_jumps.proofs.ShortenSwept.{Found}
use Rattle.sq_jumps.proofs.shorten.shortable_blocks.Given as goal

abbrev pub invariant-loop-name : goal.invariant-loop-name
invariant-loop-name l = Found l.graph.graph l.names l.name-index l.blocks.items
