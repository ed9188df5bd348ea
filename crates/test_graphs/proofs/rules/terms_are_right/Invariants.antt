use Rattle.std.proofs.Common.{take}
use Rattle.std.specs.List.{All}
use Rattle.test_graphs.specs.Standing.{TermIsRight}
use Rattle.test_graphs.proofs.rules.terms_are_right.Given as goal

abbrev pub invariant-loop-part : goal.invariant-loop-part
invariant-loop-part l = All (λ part. TermIsRight l.blocks part.term) (take l.part-index l.parts)
