use Rattle.std.proofs.Common.{refl}
use Rattle.sq_chain.specs.Moves.{carried}
use Rattle.sq_chain.proofs.Moved.{near_saves, near_applied}
use Rattle.sq_chain.proofs.moving.move_by.Goals as goal

pub returns-in-Near-clause-moved : goal.returns-in-Near-clause-moved
returns-in-Near-clause-moved c = λ r.
    let g = c.args.graph.now.graph in
    let near = c.requires.near c.in-Near.is in
    record {
      movable = c.requires.movable;
      saving = c.carry.result;
      some = near_saves g (carried g c.args.from c.args.to) c.args.from c.args.to c.learn.ensures.rules c.requires.movable refl near c.carry.new.graph.graph c.carry.result c.carry.ensures.graph c.carry.ensures.words;
      applied = near_applied g (carried g c.args.from c.args.to) c.args.from c.args.to c.learn.ensures.rules c.requires.movable refl near c.carry.new.graph.graph c.carry.result c.carry.ensures.graph c.carry.ensures.words;
    }
