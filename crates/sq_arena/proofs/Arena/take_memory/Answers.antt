use Rattle.std.proofs.Common.{List, ℕ, ap}
use Rattle.sq_arena.specs.Arena.{Arena as Listed}
use Rattle.sq_arena.proofs.ArenaWrites.{kept_shows}
use Rattle.sq_arena.proofs.Arena.take_memory.Goals as goal

pub invariant_of-self : goal.invariant_of-self
invariant_of-self g c =
    (kept_shows c.self.inside.links c.reserve.new.self c.self.inside.len c.self.inside.spare c.self.invariant c.reserve.ensures.same).sound

pub returns : goal.returns
returns g c =
    let list = (kept_shows c.self.inside.links c.reserve.new.self c.self.inside.len c.self.inside.spare c.self.invariant c.reserve.ensures.same).list in
    let shown : List (ℕ × g.row.T.Denot) → Listed g.row.T.Denot = λ xs. record { entries = xs; spare = c.self.inside.spare } in
    rw (← c.self.view_is) (ap shown list)
