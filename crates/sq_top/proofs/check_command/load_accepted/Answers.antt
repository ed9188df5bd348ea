-- the file is not loaded, or it is refused
use Rattle.sq_top.proofs.EarlyEndings.{by_residual, unloaded}
use Rattle.sq_top.proofs.check_command.load_accepted.Goals as goal

pub returns-in_err-bytes-clause-fails : goal.returns-in_err-bytes-clause-fails
returns-in_err-bytes-clause-fails g c =
    by_residual c.from_residual.result c.in_err-bytes.field-0.0 _ c.from_residual.ensures.1 (unloaded c.args.name.now c.in_err-bytes.field-0.0 _ _ c.in_err-bytes.ensures.fails)
