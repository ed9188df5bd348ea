-- a number of 32 bits has at most 10 digits
use Rattle.std.proofs.Common.{arith, length-append}
use Rattle.sq_num.proofs.Numbers.{word_decimal}
use Rattle.sq_top.proofs.lines.push_labelled.Goals as goal

pub push_number-requires : goal.push_number-requires
push_number-requires c = rw (c.push_text.ensures, c.from.ensures) (simp length-append (omega (arith, word_decimal c.args.number (omega arith))))

pub returns-clause-short : goal.returns-clause-short
returns-clause-short c =
    rw (c.push_number.ensures, c.push_text.ensures, c.from.ensures) (simp length-append (omega (arith, word_decimal c.args.number (omega arith))))
