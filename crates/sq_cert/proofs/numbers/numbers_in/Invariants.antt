use Rattle.std.proofs.Common.{◌≡◌, []}
use Rattle.std.specs.Option.{option_map}
use Rattle.sq_cert.specs.Pieces.{pieces_behind}
use Rattle.sq_cert.specs.Readings.{numbers_behind}
use Rattle.sq_cert.proofs.Splitting.{left}
use Rattle.sq_cert.proofs.numbers.numbers_in.Given as goal

abbrev pub invariant-loop-rest : goal.invariant-loop-rest
invariant-loop-rest l =
    numbers_behind l.numbers (pieces_behind 32 (option_map (λ text. text.now) l.rest)) ≡ numbers_behind [] (pieces_behind 32 (option_map (λ text. text.now) l.fn.words))

abbrev pub decreases-loop-rest : goal.decreases-loop-rest
decreases-loop-rest l = left (option_map (λ text. text.now) l.rest)
