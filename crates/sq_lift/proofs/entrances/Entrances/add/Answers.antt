use Rattle.sq_lift.proofs.Gathered.{adds_merged}
use Rattle.sq_lift.proofs.entrances.Entrances.add.Goals as goal

pub returns-in-Some : goal.returns-in-Some
returns-in-Some c = adds_merged c.args.self.now c.merge.new.self c.args.address c.in-Some.address c.args.entrance c.in-Some.is c.merge.ensures
