use Rattle.std.proofs.Common.{◌≡◌, ◌++◌, map, take, drop}
use Rattle.sq_graph.specs.Renames.{retargeted_word}
use Rattle.sq_graph.proofs.rename.retarget_words.Given as goal

abbrev pub invariant-loop-word : goal.invariant-loop-word
invariant-loop-word g l =
    l.word-items ≡ map (retargeted_word (g.R.Rename.name_of l.by)) (take l.word-index l.fn.words.items) ++ drop l.word-index l.fn.words.items
