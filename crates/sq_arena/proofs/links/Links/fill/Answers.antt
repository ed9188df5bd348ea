use Rattle.sq_arena.proofs.NodeWrites.{Fills-write}
use Rattle.sq_arena.proofs.links.Links.fill.Goals as goal

pub returns : goal.returns
returns g c = Fills-write c.args.self.now c.unwrap-key.result c.index_mut-node.result.now c.args.value c.unwrap-key.ensures c.index_mut-node.ensures.value
