use Rattle.sq_arena.proofs.ArenaWrites.{kept_shows, spare_shows}
use Rattle.sq_arena.proofs.Arena.add_spare.Goals as goal

pub invariant_of-self : goal.invariant_of-self
invariant_of-self g c =
    (kept_shows c.self.inside.links c.add_spare.new.self c.self.inside.len c.self.inside.spare c.self.invariant c.in_err-add_spare.ensures.err).sound

pub invariant_of-self-2 : goal.invariant_of-self-2
invariant_of-self-2 g c =
    (spare_shows c.self.inside.links c.add_spare.new.self c.self.inside.len c.self.inside.spare c.in_ok-add_spare.ensures.ok.0 c.self.invariant c.in_ok-add_spare.ensures.ok.1 (rw c.self.invariant.counted at (rw (← c.self.view_is) at c.requires))).sound

pub returns-clause-entries : goal.returns-clause-entries
returns-clause-entries g c =
    rw (← c.self.view_is) (spare_shows c.self.inside.links c.add_spare.new.self c.self.inside.len c.self.inside.spare c.in_ok-add_spare.ensures.ok.0 c.self.invariant c.in_ok-add_spare.ensures.ok.1 (rw c.self.invariant.counted at (rw (← c.self.view_is) at c.requires))).list
