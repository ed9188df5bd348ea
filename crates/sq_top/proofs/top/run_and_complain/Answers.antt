-- what the command left stays said after its complaint
use Rattle.sq_top.proofs.Later.{ends_by}
use Rattle.sq_top.proofs.top.run_and_complain.Goals as goal

pub returns : goal.returns
returns g c =
    ends_by (g.D.Desk.outside c.args.desk.now) (g.D.Desk.outside c.run-ending.new.desk) (g.D.Desk.outside c.complain.new.desk) c.run-ending.ensures.faults (record { files = c.complain.ensures.files; printed = c.complain.ensures.printed; faults = c.complain.ensures.faults }) c.args.words.now c.run-ending.result c.run-ending.ensures.leaves c.run-ending.ensures.complained c.complain.ensures.line
