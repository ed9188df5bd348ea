-- a number of 64 bits has at most 20 digits
use Rattle.std.proofs.Common.{arith, length-append}
use Rattle.sq_num.proofs.Numbers.{long_decimal}
use Rattle.sq_top.proofs.lines.hex_line.Goals as goal

pub push_number-requires : goal.push_number-requires
push_number-requires c =
    rw (c.push_text.ensures, c.new-line.ensures) (omega (arith, long_decimal c.line_count.result (omega arith)))

pub push_text-requires-2 : goal.push_text-requires-2
push_text-requires-2 c =
    rw (c.push_number.ensures, c.push_text.ensures, c.new-line.ensures) (simp length-append (omega (arith, long_decimal c.line_count.result (omega arith))))
