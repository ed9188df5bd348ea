-- what was loaded is what the files held, and each part of the run says the rest
use Rattle.sq_command.specs.Commands.{request_of}
use Rattle.sq_top.proofs.EarlyEndings.{by_residual, file_unloaded}
use Rattle.sq_top.proofs.run_command.load_and_run.Goals as goal

pub returns-in_err-bytes-clause-fails : goal.returns-in_err-bytes-clause-fails
returns-in_err-bytes-clause-fails g c =
    by_residual c.from_residual.result c.in_err-bytes.field-0.0 _ c.from_residual.ensures.1
    (file_unloaded (request_of c.args.words.now c.args.asked.now) c.in_err-bytes.field-0.0 _ _ c.in_err-bytes.ensures.fails)
