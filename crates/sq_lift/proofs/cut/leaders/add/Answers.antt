use Rattle.sq_lift.proofs.Raising.{raises_one}
use Rattle.sq_lift.proofs.cut.leaders.add.Goals as goal

pub returns : goal.returns
returns c = raises_one c.args.set.now c.insert.new.self c.args.address c.insert.result c.insert.ensures.added c.insert.ensures.flags
