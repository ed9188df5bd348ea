use Rattle.std.proofs.Common.{◌+◌, ◌-◌, ap, ◌∙◌, is_some}
use Rattle.sq_arena.specs.Entries.{without}
use Rattle.sq_arena.specs.Links.{listed}
use Rattle.sq_arena.proofs.ArenaLemmas.{Shows-distinct}
use Rattle.sq_arena.proofs.EntriesLaws.{KeepsOthers-without}
use Rattle.sq_arena.proofs.ArenaReads.{key_places, value_at-listed}
use Rattle.sq_arena.proofs.ArenaWrites.{unlinked_shows}
use Rattle.sq_arena.proofs.Arena.unlink.Goals as goal

pub cut-requires-clause-first : goal.cut-requires-clause-first
cut-requires-clause-first g c =
    (key_places c.self.inside.links c.self.inside.len c.self.inside.spare c.args.key c.self.invariant (rw (← c.self.view_is) at c.requires)).at_first

pub cut-requires-clause-last : goal.cut-requires-clause-last
cut-requires-clause-last g c =
    (key_places c.self.inside.links c.self.inside.len c.self.inside.spare c.args.key c.self.invariant (rw (← c.self.view_is) at c.requires)).at_last

pub cut-requires-clause-before : goal.cut-requires-clause-before
cut-requires-clause-before g c =
    (key_places c.self.inside.links c.self.inside.len c.self.inside.spare c.args.key c.self.invariant (rw (← c.self.view_is) at c.requires)).before

pub cut-requires-clause-behind : goal.cut-requires-clause-behind
cut-requires-clause-behind g c =
    (key_places c.self.inside.links c.self.inside.len c.self.inside.spare c.args.key c.self.invariant (rw (← c.self.view_is) at c.requires)).behind

pub free-value-requires : goal.free-value-requires
free-value-requires g c =
    ap is_some (c.cut.ensures.values c.args.key ∙ value_at-listed c.self.inside.links c.self.inside.len c.self.inside.spare c.args.key c.self.invariant) ∙ (rw (← c.self.view_is) at c.requires)

pub invariant_of-self : goal.invariant_of-self
invariant_of-self g c =
    (unlinked_shows c.self.inside.links c.cut.new.self c.free-value.new.self c.self.inside.len c.self.inside.spare c.args.key c.free-value.result c.self.invariant (rw (← c.self.view_is) at c.requires) c.cut.ensures c.free-value.ensures).0.sound

pub returns-clause-value : goal.returns-clause-value
returns-clause-value g c =
    rw (← c.self.view_is) (unlinked_shows c.self.inside.links c.cut.new.self c.free-value.new.self c.self.inside.len c.self.inside.spare c.args.key c.free-value.result c.self.invariant (rw (← c.self.view_is) at c.requires) c.cut.ensures c.free-value.ensures).1

pub returns-clause-entries : goal.returns-clause-entries
returns-clause-entries g c =
    rw (← c.self.view_is) (unlinked_shows c.self.inside.links c.cut.new.self c.free-value.new.self c.self.inside.len c.self.inside.spare c.args.key c.free-value.result c.self.invariant (rw (← c.self.view_is) at c.requires) c.cut.ensures c.free-value.ensures).0.list

pub returns-clause-others : goal.returns-clause-others
returns-clause-others g c =
    let list = (unlinked_shows c.self.inside.links c.cut.new.self c.free-value.new.self c.self.inside.len c.self.inside.spare c.args.key c.free-value.result c.self.invariant (rw (← c.self.view_is) at c.requires) c.cut.ensures c.free-value.ensures).0.list in
    rw (list, ← c.self.view_is) (KeepsOthers-without (listed c.self.inside.links c.self.inside.len) c.args.key)

pub returns-clause-distinct : goal.returns-clause-distinct
returns-clause-distinct g c =
    let shows = (unlinked_shows c.self.inside.links c.cut.new.self c.free-value.new.self c.self.inside.len c.self.inside.spare c.args.key c.free-value.result c.self.invariant (rw (← c.self.view_is) at c.requires) c.cut.ensures c.free-value.ensures).0 in
    rw shows.list (Shows-distinct c.free-value.new.self (c.self.inside.len - 1) (c.self.inside.spare + 1) (without (listed c.self.inside.links c.self.inside.len) c.args.key) shows)
