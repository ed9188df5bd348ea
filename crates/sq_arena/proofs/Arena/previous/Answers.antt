use Rattle.std.proofs.Common.{◌∙◌}
use Rattle.sq_arena.specs.Links.{listed}
use Rattle.sq_arena.proofs.ArenaReads.{key_places, previous_at-key}
use Rattle.sq_arena.proofs.Arena.previous.Goals as goal

pub previous-requires : goal.previous-requires
previous-requires g c =
    (key_places c.self.inside.links c.self.inside.len c.self.inside.spare c.args.key c.self.invariant (rw (← c.self.view_is) at c.requires)).at_first

pub returns : goal.returns
returns g c =
    rw (← c.self.view_is) (c.previous.ensures ∙ previous_at-key c.self.inside.links (listed c.self.inside.links c.self.inside.len) c.self.invariant.spare_keys c.args.key (rw (← c.self.view_is) at c.requires) c.self.invariant.linked)
