use Rattle.std.proofs.Common.{◌∙◌}
use Rattle.sq_arena.proofs.ArenaReads.{value_at-listed}
use Rattle.sq_arena.proofs.Arena.get.Goals as goal

pub returns : goal.returns
returns g c =
    rw (← c.self.view_is) (c.value.ensures ∙ value_at-listed c.self.inside.links c.self.inside.len c.self.inside.spare c.args.key c.self.invariant)
