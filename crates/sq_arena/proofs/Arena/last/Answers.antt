use Rattle.std.proofs.Common.{◌∙◌}
use Rattle.sq_arena.specs.Links.{listed}
use Rattle.sq_arena.proofs.ArenaReads.{previous_at-end}
use Rattle.sq_arena.proofs.Arena.last.Goals as goal

pub returns : goal.returns
returns g c =
    rw (← c.self.view_is) (c.previous.ensures ∙ previous_at-end c.self.inside.links (listed c.self.inside.links c.self.inside.len) c.self.invariant.spare_keys c.self.invariant.linked)
