use Rattle.std.proofs.Common.{◌≡◌, map, take}
use Rattle.sq_graph.specs.Walks.{word_name}
use Rattle.sq_reach.specs.Search.{Reaches}
use Rattle.sq_reach.proofs.search.Search.reach_words.Given as goal

abbrev pub invariant-loop-word : goal.invariant-loop-word
invariant-loop-word l = record {
  ok : Reaches (map word_name (take l.word-index l.words)) l.initial.self l.self;
  called : l.self.called ≡ l.initial.self.called;
}
