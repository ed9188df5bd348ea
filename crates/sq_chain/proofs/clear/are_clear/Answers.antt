use Rattle.std.proofs.Common.{arith}
use Rattle.sq_chain.proofs.clear.are_clear.Goals as goal

pub returns-then-is_clear-2-clause-end : goal.returns-then-is_clear-2-clause-end
returns-then-is_clear-2-clause-end c = λ yes g rules placed are.
    c.is_clear-then-is_clear-2.ensures yes g rules placed are c.args.seams.end c.requires.second (omega arith)
