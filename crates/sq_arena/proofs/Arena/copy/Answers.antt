use Rattle.sq_arena.proofs.ArenaWrites.{kept_shows}
use Rattle.sq_arena.proofs.Arena.copy.Goals as goal

pub invariant_of-result : goal.invariant_of-result
invariant_of-result g c =
    (kept_shows c.self.inside.links c.in_ok-copy.field-0 c.self.inside.len c.self.inside.spare c.self.invariant c.in_ok-copy.ensures).sound
