-- what was printed is what tells the watch
use Rattle.sq_command.specs.Commands.{request_of}
use Rattle.sq_top.proofs.Watched.{shown}
use Rattle.sq_top.proofs.watch_command.watch.Goals as goal

pub returns-in-Ok-clause-leaves : goal.returns-in-Ok-clause-leaves
returns-in-Ok-clause-leaves g c =
    shown (request_of c.args.words.now c.args.asked.now) c.in-Ok.transcript (g.D.Desk.outside c.args.desk.now) (g.D.Desk.outside c.load_and_watch.new.desk) (g.D.Desk.outside c.show.new.desk)
    c.in-Ok.ensures.faults c.in-Ok.ensures.printed c.in-Ok.ensures.watches c.show.result c.in-Ok.ensures.files c.show.ensures.files c.show.ensures.leaves
