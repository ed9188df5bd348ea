use Rattle.std.proofs.Common.{◌≡◌, ◌++◌, take}
use Rattle.sq_write.specs.Output.{halves}
use Rattle.sq_write.proofs.fields.push_halves.Given as goal

-- the numbers so far were appended
abbrev pub invariant-loop-number : goal.invariant-loop-number
invariant-loop-number l = l.file.items ≡ l.fn.file.items ++ halves (take l.number-index l.numbers)
