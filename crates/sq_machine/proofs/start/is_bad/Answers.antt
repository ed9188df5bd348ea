use Rattle.std.proofs.Common.{◌≡◌, ◌+◌, arith}
use Rattle.sq_system.specs.Starts.{start_of, ram_end}
use Rattle.sq_machine.proofs.FirstStates.{bad_by_test}
use Rattle.sq_machine.proofs.start.is_bad.Goals as goal

pub returns-in-Some-clause-bad : goal.returns-in-Some-clause-bad
returns-in-Some-clause-bad c =
    let e : c.from.result + c.from-2.result ≡ ram_end (start_of c.args.start.now) = omega (arith, c.from.ensures, c.from-2.ensures) in
    bad_by_test c.args.pieces.now (start_of c.args.start.now) c.in-Some.pointer (c.from.result + c.from-2.result) c.meets_any.result c.in-Some.ensures.0 c.in-Some.ensures.1 e c.meets_any.ensures
