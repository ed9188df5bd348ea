-- A number of 32 bits has at most 10 digits.
use Rattle.std.proofs.Common.{arith, length-append}
use Rattle.sq_num.proofs.Numbers.{word_decimal}
use Rattle.sq_system.proofs.line.numbered.Goals as goal

pub returns-clause-short : goal.returns-clause-short
returns-clause-short c =
    rw (c.push_number.ensures, c.push_text.ensures, c.new-line.ensures, c.from.ensures) (simp length-append (omega (arith, word_decimal c.args.number (omega arith))))
