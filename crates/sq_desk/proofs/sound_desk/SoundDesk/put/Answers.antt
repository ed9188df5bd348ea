-- for want of memory the files are as before
use Rattle.std.proofs.Common.{Some, ap}
use Rattle.std.proofs.lemmas.Result.{on_err_weaker}
use Rattle.sq_desk.proofs.sound_desk.SoundDesk.put.Goals as goal

pub returns-clause-err : goal.returns-clause-err
returns-clause-err c = on_err_weaker c.put.result (λ same. ap Some same) c.put.ensures.err
