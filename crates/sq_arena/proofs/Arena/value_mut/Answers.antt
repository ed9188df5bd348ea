use Rattle.std.proofs.Common.{List, ℕ, ap, sym, refl, ◌∙◌, is_some}
use Rattle.sq_arena.specs.Arena.{Arena as Listed}
use Rattle.sq_arena.proofs.ArenaReads.{value_at-listed}
use Rattle.sq_arena.proofs.ArenaWrites.{link_value_shows}
use Rattle.sq_arena.proofs.Arena.value_mut.Goals as goal

pub value_mut-requires : goal.value_mut-requires
value_mut-requires g c =
    ap is_some (value_at-listed c.self.inside.links c.self.inside.len c.self.inside.spare c.args.key c.self.invariant) ∙ (rw (← c.self.view_is) at c.requires)

pub invariant_of-self-lent : goal.invariant_of-self-lent
invariant_of-self-lent g c w =
    (link_value_shows c.self.inside.links c.self.inside.len c.self.inside.spare c.args.key w c.self.invariant (rw (← c.self.view_is) at c.requires)).sound

pub returns : goal.returns
returns g c = (
  (
    refl,
    λ w.
        let list = (link_value_shows c.self.inside.links c.self.inside.len c.self.inside.spare c.args.key w c.self.invariant (rw (← c.self.view_is) at c.requires)).list in
        let shown : List (ℕ × g.row.T.Denot) → Listed g.row.T.Denot = λ xs. record { entries = xs; spare = c.self.inside.spare } in
        rw (← c.self.view_is) (ap shown list),
  ),
  record {
    writes_back = tt;
    value = rw (← c.self.view_is) (sym (value_at-listed c.self.inside.links c.self.inside.len c.self.inside.spare c.args.key c.self.invariant) ∙ c.value_mut.ensures.value);
  },
)
