use Rattle.std.proofs.Common.{map, take}
use Rattle.law_program.specs.Programs.{target_of}
use Rattle.sq_lift.specs.Search.{Reaches}
use Rattle.sq_lift.proofs.search.Search.reach_targets.Given as goal

abbrev pub invariant-loop-word : goal.invariant-loop-word
invariant-loop-word l = Reaches (map target_of (take l.word-index l.words)) l.initial.self l.self
