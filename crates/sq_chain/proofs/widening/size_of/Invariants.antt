use Rattle.std.proofs.Common.{◌≡◌, take}
use Rattle.sq_lookup.specs.Names.{is_listed}
use Rattle.sq_chain.proofs.Rounds.{count_of}
use Rattle.sq_chain.proofs.widening.size_of.Given as goal

abbrev pub invariant-loop-name : goal.invariant-loop-name
invariant-loop-name l = l.size ≡ count_of (is_listed l.wide) (take l.name-index l.graph.graph.blocks)
