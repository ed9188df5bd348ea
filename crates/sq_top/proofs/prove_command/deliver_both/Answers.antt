-- the store of OUT, and what is delivered behind it
use Rattle.sq_top.proofs.ProveLoaded.{both_left}
use Rattle.sq_top.proofs.prove_command.deliver_both.Goals as goal

pub returns-in-Ok-clause-leaves : goal.returns-in-Ok-clause-leaves
returns-in-Ok-clause-leaves g c =
    both_left c.args.output.now c.args.bytes.now c.args.cert.now (g.D.Desk.outside c.args.desk.now) (g.D.Desk.outside c.store.new.self) (g.D.Desk.outside c.deliver.new.desk)
    c.in-Ok.ensures.stored c.args.text.now c.args.line.now c.store.ensures.printed c.store.ensures.faults c.deliver.result c.deliver.ensures.leaves
