use Rattle.sq_arena.proofs.NodeWrites.{SetsPrevious-write}
use Rattle.sq_arena.proofs.links.Links.set_previous.Goals as goal

pub returns-in-Some : goal.returns-in-Some
returns-in-Some g c = rw c.in-Some.is (SetsPrevious-write c.args.self.now c.in-Some.key c.index_mut.result.now c.args.previous c.index_mut.ensures.value)
