-- the bytes that were loaded are the held file
use Rattle.sq_top.proofs.EarlyEndings.{by_residual, unwritten}
use Rattle.sq_top.proofs.hex_command.load_and_write.Goals as goal

pub returns-in_err-bytes-clause-fails : goal.returns-in_err-bytes-clause-fails
returns-in_err-bytes-clause-fails g c =
    by_residual c.from_residual.result c.in_err-bytes.field-0.0 _ c.from_residual.ensures.1 (unwritten c.args.input.now c.in_err-bytes.field-0.0 _ _ c.in_err-bytes.ensures.fails)
