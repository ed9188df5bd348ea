use Rattle.std.proofs.Common.{rules, refl}
use Rattle.sq_monitor.specs.Views.{watched_of}
use Rattle.sq_monitor.proofs.hart.Hart.jalr.Goals as goal

pub returns-in-Err : goal.returns-in-Err
returns-in-Err c =
    let h = c.in-Err.ensures c.args.rd c.args.at (watched_of c.args.self.now).core in
    (search (rules, h), refl)
