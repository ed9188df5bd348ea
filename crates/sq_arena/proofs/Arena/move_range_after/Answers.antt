use Rattle.std.proofs.Common.{arith}
use Rattle.sq_arena.specs.Entries.{move_run_after}
use Rattle.sq_arena.specs.Links.{listed}
use Rattle.sq_arena.proofs.ArenaLemmas.{Shows-distinct}
use Rattle.sq_arena.proofs.EntriesLaws.{distinct_keys, KeepsValues-move_run_after, without_run-move_run_after}
use Rattle.sq_arena.proofs.Moves.{cut_places, cut_of, at_after, behind_after, moved_shows}
use Rattle.sq_arena.proofs.Arena.move_range_after.Goals as goal

pub cut-requires-clause-first : goal.cut-requires-clause-first
cut-requires-clause-first g c =
    (cut_places c.self.inside.links c.self.inside.len c.self.inside.spare c.args.first c.args.last c.self.invariant (rw (← c.self.view_is) at c.requires.run)).at_first

pub cut-requires-clause-last : goal.cut-requires-clause-last
cut-requires-clause-last g c =
    (cut_places c.self.inside.links c.self.inside.len c.self.inside.spare c.args.first c.args.last c.self.invariant (rw (← c.self.view_is) at c.requires.run)).at_last

pub cut-requires-clause-before : goal.cut-requires-clause-before
cut-requires-clause-before g c =
    (cut_places c.self.inside.links c.self.inside.len c.self.inside.spare c.args.first c.args.last c.self.invariant (rw (← c.self.view_is) at c.requires.run)).before

pub cut-requires-clause-behind : goal.cut-requires-clause-behind
cut-requires-clause-behind g c =
    (cut_places c.self.inside.links c.self.inside.len c.self.inside.spare c.args.first c.args.last c.self.invariant (rw (← c.self.view_is) at c.requires.run)).behind

pub splice-requires-clause-after : goal.splice-requires-clause-after
splice-requires-clause-after g c =
    at_after c.cut.new.self (listed c.self.inside.links c.self.inside.len) c.args.first c.args.last c.args.after
    (cut_of c.self.inside.links c.cut.new.self c.self.inside.len c.self.inside.spare c.args.first c.args.last c.self.invariant (rw (← c.self.view_is) at c.requires.run) c.cut.ensures)
    (rw (← c.self.view_is) at c.requires.after)

pub splice-requires-clause-first : goal.splice-requires-clause-first
splice-requires-clause-first g c =
    c.cut.ensures.nodes c.args.first (cut_places c.self.inside.links c.self.inside.len c.self.inside.spare c.args.first c.args.last c.self.invariant (rw (← c.self.view_is) at c.requires.run)).at_first

pub splice-requires-clause-last : goal.splice-requires-clause-last
splice-requires-clause-last g c =
    c.cut.ensures.nodes c.args.last (cut_places c.self.inside.links c.self.inside.len c.self.inside.spare c.args.first c.args.last c.self.invariant (rw (← c.self.view_is) at c.requires.run)).at_last

pub splice-requires-clause-behind : goal.splice-requires-clause-behind
splice-requires-clause-behind g c =
    behind_after c.cut.new.self (listed c.self.inside.links c.self.inside.len) c.args.first c.args.last c.args.after
    (cut_of c.self.inside.links c.cut.new.self c.self.inside.len c.self.inside.spare c.args.first c.args.last c.self.invariant (rw (← c.self.view_is) at c.requires.run) c.cut.ensures)
    (rw (← c.self.view_is) at c.requires.after)

pub invariant_of-self : goal.invariant_of-self
invariant_of-self g c =
    (moved_shows c.self.inside.links c.cut.new.self c.splice.new.self c.self.inside.len c.self.inside.spare c.args.first c.args.last c.args.after c.self.invariant (rw (← c.self.view_is) at c.requires.run) (rw (← c.self.view_is) at c.requires.after) c.cut.ensures c.splice.ensures).sound

pub returns-clause-entries : goal.returns-clause-entries
returns-clause-entries g c =
    rw (← c.self.view_is) (moved_shows c.self.inside.links c.cut.new.self c.splice.new.self c.self.inside.len c.self.inside.spare c.args.first c.args.last c.args.after c.self.invariant (rw (← c.self.view_is) at c.requires.run) (rw (← c.self.view_is) at c.requires.after) c.cut.ensures c.splice.ensures).list

pub returns-clause-values : goal.returns-clause-values
returns-clause-values g c =
    let run = rw (← c.self.view_is) at c.requires.run in
    let list = (moved_shows c.self.inside.links c.cut.new.self c.splice.new.self c.self.inside.len c.self.inside.spare c.args.first c.args.last c.args.after c.self.invariant run (rw (← c.self.view_is) at c.requires.after) c.cut.ensures c.splice.ensures).list in
    let distinct = distinct_keys (listed c.self.inside.links c.self.inside.len) (λ p. omega (arith, c.self.invariant.linked.distinct p)) in
    rw (list, ← c.self.view_is) (KeepsValues-move_run_after (listed c.self.inside.links c.self.inside.len) c.args.first c.args.last c.args.after distinct run)

pub returns-clause-distinct : goal.returns-clause-distinct
returns-clause-distinct g c =
    let shows = moved_shows c.self.inside.links c.cut.new.self c.splice.new.self c.self.inside.len c.self.inside.spare c.args.first c.args.last c.args.after c.self.invariant (rw (← c.self.view_is) at c.requires.run) (rw (← c.self.view_is) at c.requires.after) c.cut.ensures c.splice.ensures in
    rw shows.list (Shows-distinct c.splice.new.self c.self.inside.len c.self.inside.spare (move_run_after (listed c.self.inside.links c.self.inside.len) c.args.first c.args.last c.args.after) shows)

pub returns-clause-rest : goal.returns-clause-rest
returns-clause-rest g c =
    let run = rw (← c.self.view_is) at c.requires.run in
    let list = (moved_shows c.self.inside.links c.cut.new.self c.splice.new.self c.self.inside.len c.self.inside.spare c.args.first c.args.last c.args.after c.self.invariant run (rw (← c.self.view_is) at c.requires.after) c.cut.ensures c.splice.ensures).list in
    let distinct = distinct_keys (listed c.self.inside.links c.self.inside.len) (λ p. omega (arith, c.self.invariant.linked.distinct p)) in
    rw (list, ← c.self.view_is) (without_run-move_run_after (listed c.self.inside.links c.self.inside.len) c.args.first c.args.last c.args.after distinct run)
