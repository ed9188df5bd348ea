use Rattle.std.proofs.Common.{◌≡◌, ◌++◌, drop, map, filter, nat_le}
use Rattle.sq_write.specs.Output.{relocation_table}
use Rattle.sq_write.specs.Written.{word_entry}
use Rattle.sq_write.proofs.entries.push_entries_behind.Given as goal

abbrev pub invariant-loop-word : goal.invariant-loop-word
invariant-loop-word l =
    l.entries.items ++ relocation_table (map (word_entry l.placed.g.now.graph l.placed.lo) (filter (λ word. nat_le l.placed.lo word.at) (drop l.word-index l.placed.g.now.graph.code_words)))
    ≡ l.fn.entries.items ++ relocation_table (map (word_entry l.placed.g.now.graph l.placed.lo) (filter (λ word. nat_le l.placed.lo word.at) l.placed.g.now.graph.code_words))
