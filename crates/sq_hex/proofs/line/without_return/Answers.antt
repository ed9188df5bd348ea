use Rattle.std.proofs.Common.{◌≡◌, ◌-◌, suc, length, sym, arith}
use Rattle.std.proofs.lemmas.Bool.Decides.{nat_tests}
use Rattle.std.proofs.lemmas.Grind.{common_steps}
use Rattle.sq_hex.proofs.LineLemmas.{without_return_empty, without_return_plain, without_return_ended}
use Rattle.sq_hex.proofs.line.without_return.Goals as goal
use Rattle.sq_hex.proofs.line.without_return.Goals.{then-is_empty-via-then-is_empty, then-is_empty-via-else-is_empty+then-line-ne13}

pub returns-then-is_empty-clause-value : goal.returns-then-is_empty-clause-value
returns-then-is_empty-clause-value c =
    let line = c.args.line.now in
    elim c.then-is_empty.branch [
      | then-is_empty-via-then-is_empty w ↦ sym (without_return_empty line (grind (arith, nat_tests)))
      | then-is_empty-via-else-is_empty+then-line-ne13 w ↦
          let size : length line ≡ suc (length line - 1) = grind (arith, nat_tests) in
          sym (without_return_plain line (length line - 1) size w.if-line-ne13.true)
    ]

pub returns-clause-value : goal.returns-clause-value
returns-clause-value c =
    let line = c.args.line.now in
    let size : length line ≡ suc (length line - 1) = grind (arith, nat_tests) in
    sym (without_return_ended line (length line - 1) size (grind (arith, common_steps)))
