use Rattle.std.proofs.Common.{◌≡◌, ◌++◌}
use Rattle.sq_gen.specs.Generated.{words_from}
use Rattle.sq_gen.proofs.generator.words_from.Given as goal

-- the words so far, and those of the blocks that are left
abbrev pub invariant-loop-left : goal.invariant-loop-left
invariant-loop-left l = l.words.items ++ words_from l.number l.left ≡ words_from l.fn.first l.fn.blocks
