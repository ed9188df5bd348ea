-- A number of 64 bits has at most 20 digits.
use Rattle.std.proofs.Common.{arith, length-append}
use Rattle.sq_num.proofs.Numbers.{long_decimal}
use Rattle.sq_num.proofs.refusal.push_spaced_number.Goals as goal

pub push_number-requires : goal.push_number-requires
push_number-requires c = rw c.push_text.ensures (simp length-append (omega (arith, long_decimal c.args.v (omega arith))))

pub returns-clause-short : goal.returns-clause-short
returns-clause-short c =
    rw (c.push_number.ensures, c.push_text.ensures) (simp length-append (omega (arith, long_decimal c.args.v (omega arith))))
