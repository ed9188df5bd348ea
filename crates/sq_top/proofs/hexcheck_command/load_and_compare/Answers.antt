-- where IN is not loaded
use Rattle.sq_top.proofs.EarlyEndings.{by_residual, unchecked}
use Rattle.sq_top.proofs.hexcheck_command.load_and_compare.Goals as goal

pub returns-in_err-bytes-clause-fails : goal.returns-in_err-bytes-clause-fails
returns-in_err-bytes-clause-fails g c =
    by_residual c.from_residual.result c.in_err-bytes.field-0.0 _ c.from_residual.ensures.1 (unchecked c.args.input.now c.args.text.now c.in_err-bytes.field-0.0 _ _ c.in_err-bytes.ensures.fails)
