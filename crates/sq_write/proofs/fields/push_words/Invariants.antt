use Rattle.std.proofs.Common.{◌≡◌, ◌++◌, take}
use Rattle.sq_write.specs.Output.{words}
use Rattle.sq_write.proofs.fields.push_words.Given as goal

-- the numbers so far were appended
abbrev pub invariant-loop-number : goal.invariant-loop-number
invariant-loop-number l = l.file.items ≡ l.fn.file.items ++ words (take l.number-index l.numbers)
