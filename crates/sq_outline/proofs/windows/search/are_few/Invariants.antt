use Rattle.std.proofs.Common.{ℕ, ◌<◌, Option, take}
use Rattle.std.specs.Prelude.{IfSome}
use Rattle.std.specs.List.{All}
use Rattle.sq_outline.proofs.windows.search.are_few.Given as goal

abbrev pub invariant-loop-number : goal.invariant-loop-number
invariant-loop-number l = All (λ (o : Option ℕ). IfSome o (λ n. n < 4294967295)) (take l.number-index l.numbers)
