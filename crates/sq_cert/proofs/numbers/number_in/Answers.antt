use Rattle.sq_cert.proofs.Numerals.{no_number}
use Rattle.sq_cert.proofs.numbers.number_in.Goals as goal

pub returns-in-Err : goal.returns-in-Err
returns-in-Err c = no_number c.args.word.now c.in-Err.ensures.cases.0
