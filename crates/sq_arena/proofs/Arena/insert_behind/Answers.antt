use Rattle.std.proofs.Common.{◌+◌, ◌-◌, ◌∷◌, ◌++◌}
use Rattle.sq_arena.proofs.ArenaLemmas.{Shows-distinct}
use Rattle.sq_arena.proofs.ArenaReads.{IsPlace-map}
use Rattle.sq_arena.proofs.ArenaWrites.{vacant_some, vacant_place, vacant_fresh, place_of_front, place_behind_front, inserted_shows}
use Rattle.sq_arena.proofs.Arena.insert_behind.Goals as goal

pub fill-key-requires-clause-some : goal.fill-key-requires-clause-some
fill-key-requires-clause-some g c =
    vacant_some c.self.inside.links c.self.inside.links.vacant c.self.invariant.spare_keys c.self.invariant.linked.spare (rw c.self.invariant.to_spare (rw (← c.self.view_is) at c.requires.spare))

pub fill-key-requires-clause-node : goal.fill-key-requires-clause-node
fill-key-requires-clause-node g c =
    vacant_place c.self.inside.links c.self.inside.links.vacant c.self.invariant.spare_keys c.self.invariant.linked.spare

pub splice-requires-clause-after : goal.splice-requires-clause-after
splice-requires-clause-after g c =
    let at = rw (← c.self.view_is) at c.requires.place in
    IsPlace-map c.self.inside.links c.fill-key.new.self c.fill-key.ensures.nodes c.args.place (place_of_front c.self.inside.links c.self.inside.len c.self.inside.spare c.args.place at.0 at.1 c.self.invariant at.2)

pub splice-requires-clause-behind : goal.splice-requires-clause-behind
splice-requires-clause-behind g c =
    let at = rw (← c.self.view_is) at c.requires.place in
    rw (c.fill-key.ensures.next c.args.place) (IsPlace-map c.self.inside.links c.fill-key.new.self c.fill-key.ensures.nodes _ (place_behind_front c.self.inside.links c.self.inside.len c.self.inside.spare c.args.place at.0 at.1 c.self.invariant at.2))

pub invariant_of-self : goal.invariant_of-self
invariant_of-self g c =
    let at = rw (← c.self.view_is) at c.requires.place in
    (inserted_shows c.self.inside.links c.fill-key.new.self c.splice.new.self c.self.inside.len c.self.inside.spare c.args.place at.0 at.1 c.fill-key.result c.args.value c.self.invariant at.2 c.fill-key.ensures c.splice.ensures (rw (← c.self.view_is) at c.requires.spare)).sound

pub returns-clause-entries : goal.returns-clause-entries
returns-clause-entries g c =
    λ front back falls.
    (inserted_shows c.self.inside.links c.fill-key.new.self c.splice.new.self c.self.inside.len c.self.inside.spare c.args.place front back c.fill-key.result c.args.value c.self.invariant (rw (← c.self.view_is) at falls) c.fill-key.ensures c.splice.ensures (rw (← c.self.view_is) at c.requires.spare)).list

pub returns-clause-fresh : goal.returns-clause-fresh
returns-clause-fresh g c =
    rw (← c.self.view_is) (vacant_fresh c.self.inside.links c.self.inside.len c.self.inside.spare c.fill-key.result c.self.invariant c.fill-key.ensures.was_vacant)

pub returns-clause-distinct : goal.returns-clause-distinct
returns-clause-distinct g c =
    let at = rw (← c.self.view_is) at c.requires.place in
    let shows = inserted_shows c.self.inside.links c.fill-key.new.self c.splice.new.self c.self.inside.len c.self.inside.spare c.args.place at.0 at.1 c.fill-key.result c.args.value c.self.invariant at.2 c.fill-key.ensures c.splice.ensures (rw (← c.self.view_is) at c.requires.spare) in
    rw shows.list (Shows-distinct c.splice.new.self (c.self.inside.len + 1) (c.self.inside.spare - 1) (at.0 ++ (c.fill-key.result, c.args.value) ∷ at.1) shows)
