use Rattle.sq_arena.proofs.NodeWrites.{SetsNext-write}
use Rattle.sq_arena.proofs.links.Links.set_next.Goals as goal

pub returns-in-Some : goal.returns-in-Some
returns-in-Some g c = rw c.in-Some.is (SetsNext-write c.args.self.now c.in-Some.key c.index_mut.result.now c.args.next c.index_mut.ensures.value)
