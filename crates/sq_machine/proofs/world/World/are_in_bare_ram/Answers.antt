use Rattle.std.proofs.Common.{◌+◌, arith}
use Rattle.std.proofs.lemmas.Bool.{leb-true}
use Rattle.sq_machine.specs.Views.{world_of}
use Rattle.sq_machine.proofs.Pieces.{writable_in_ram}
use Rattle.sq_machine.proofs.world.World.are_in_bare_ram.Goals as goal

pub returns-then-self-x : goal.returns-then-self-x
unfolding world_of
returns-then-self-x c = λ e.
    writable_in_ram (world_of c.args.self.now) c.args.self.now.bare c.args.x c.args.n c.args.self.now.is_bare (omega (arith, c.if-self-x.true))
    (let h = leb-true (c.from.result + c.from-then-self-x.result) (c.from-then-self-x-2.result + c.from-then-self-x-3.result) e in omega (arith, h, c.from.ensures, c.from-then-self-x.ensures, c.from-then-self-x-2.ensures, c.from-then-self-x-3.ensures))
