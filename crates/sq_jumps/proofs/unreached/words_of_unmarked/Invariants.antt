use Rattle.std.proofs.Common.{◌≡◌, take, not, sum_by}
use Rattle.std.specs.List.{filter}
use Rattle.sq_graph.specs.Words.{block_words}
use Rattle.sq_lookup.specs.Names.{is_listed}
use Rattle.sq_jumps.proofs.unreached.words_of_unmarked.Given as goal

abbrev pub invariant-loop-name : goal.invariant-loop-name
invariant-loop-name l = l.words ≡ sum_by block_words (filter (λ b. not (is_listed l.marks b.name)) (take l.name-index l.graph.graph.blocks))
