use Rattle.std.proofs.Common.{◌∙◌, ◌+◌, ◌-◌, ◌<◌, ap, sym, refl, arith}
use Rattle.sq_arena.proofs.EntriesLemmas.{some_value}
use Rattle.sq_graph.specs.declared.graph.Graph.TheInside.{Inside}
use Rattle.sq_graph.specs.Blocks.{named, items_of_bodies}
use Rattle.sq_graph.specs.Operations.{moved_after}
use Rattle.sq_graph.specs.Layout.{graph_of}
use Rattle.sq_graph.proofs.Sizes.{same_room}
use Rattle.sq_graph.proofs.Changes.{distinct_slots}
use Rattle.sq_graph.proofs.SlotReads.{has_slot}
use Rattle.sq_graph.proofs.ItemWrites.{placed}
use Rattle.sq_graph.proofs.BlockMoves.{like_slots, like_run, like_outside}
use Rattle.sq_graph.proofs.RunMoves.{last_there, after_there}
use Rattle.sq_graph.proofs.MoveShows.{ends_at, moves, slots_numbered, slots_fit, move_shows}
use Rattle.sq_graph.proofs.StrewnMoves.{strewn_run, strewn_outside, strewn_moves}
use Rattle.sq_graph.proofs.Tight.{closed}
use Rattle.sq_graph.proofs.graph.Graph.move_after.Goals as goal

-- IN NO ORDER

pub move_range_after-requires-clause-run : goal.move_range_after-requires-clause-run
move_range_after-requires-clause-run c = strewn_run c.self.inside c.args.first c.args.last (rw (← c.self.view_is) at c.requires.run)

pub move_range_after-requires-clause-after : goal.move_range_after-requires-clause-after
move_range_after-requires-clause-after c = strewn_outside c.self.inside c.args.first c.args.last c.args.after (rw (← c.self.view_is) at c.requires.after)

pub invariant_of-self : goal.invariant_of-self
invariant_of-self c =
    let loose = some_value c.self.inside.loose.free (sym c.is_some.ensures ∙ c.if-is_some.true) in
    (strewn_moves c.self.inside c.args.first c.args.last c.args.after loose.0 c.move_range_after.new.self c.self.invariant loose.1 (rw (← c.self.view_is) at c.requires.run) c.move_range_after.ensures.entries c.move_range_after.ensures.spare (rw (← c.self.view_is) at c.requires.rules)).sound

pub returns-then-is_some-clause-graph : goal.returns-then-is_some-clause-graph
returns-then-is_some-clause-graph c =
    let loose = some_value c.self.inside.loose.free (sym c.is_some.ensures ∙ c.if-is_some.true) in
    (strewn_moves c.self.inside c.args.first c.args.last c.args.after loose.0 c.move_range_after.new.self c.self.invariant loose.1 (rw (← c.self.view_is) at c.requires.run) c.move_range_after.ensures.entries c.move_range_after.ensures.spare (rw (← c.self.view_is) at c.requires.rules)).is
    ∙ ap (λ v. moved_after v.graph c.args.first c.args.last c.args.after) c.self.view_is

-- IN ORDER

pub slot-first_slot-requires : goal.slot-first_slot-requires
slot-first_slot-requires c =
    let t = closed c.self.view_is c.self.invariant c.close_gaps.ensures.kept c.close_gaps.ensures.gaps c.close_gaps.ensures.order in
    has_slot _ c.args.first t.tight.sound (let r = rw (← t.view_is) at c.requires.run in r.starts)

pub slot-last_slot-requires : goal.slot-last_slot-requires
slot-last_slot-requires c =
    let now : Inside = record c.self.inside { slots = c.close_gaps.new.slots; items = c.close_gaps.new.items; blocks_end = c.close_gaps.new.blocks_end; gaps = c.close_gaps.new.gaps; loose = c.close_gaps.new.loose } in
    let t = closed c.self.view_is c.self.invariant c.close_gaps.ensures.kept c.close_gaps.ensures.gaps c.close_gaps.ensures.order in
    has_slot _ c.args.last t.tight.sound (last_there (named (graph_of now).blocks) c.args.first c.args.last (rw (← t.view_is) at c.requires.run))

pub slot-after_slot-requires : goal.slot-after_slot-requires
slot-after_slot-requires c =
    let now : Inside = record c.self.inside { slots = c.close_gaps.new.slots; items = c.close_gaps.new.items; blocks_end = c.close_gaps.new.blocks_end; gaps = c.close_gaps.new.gaps; loose = c.close_gaps.new.loose } in
    let t = closed c.self.view_is c.self.invariant c.close_gaps.ensures.kept c.close_gaps.ensures.gaps c.close_gaps.ensures.order in
    has_slot _ c.args.after t.tight.sound (after_there (named (graph_of now).blocks) c.args.first c.args.last c.args.after (rw (← t.view_is) at c.requires.run) (rw (← t.view_is) at c.requires.after))

pub overflow_add-end : goal.overflow_add-end
overflow_add-end c =
    let now : Inside = record c.self.inside { slots = c.close_gaps.new.slots; items = c.close_gaps.new.items; blocks_end = c.close_gaps.new.blocks_end; gaps = c.close_gaps.new.gaps; loose = c.close_gaps.new.loose } in
    let t = closed c.self.view_is c.self.invariant c.close_gaps.ensures.kept c.close_gaps.ensures.gaps c.close_gaps.ensures.order in
    let p = placed _ c.args.last c.slot-last_slot.result t.tight (last_there (named (graph_of now).blocks) c.args.first c.args.last (rw (← t.view_is) at c.requires.run)) c.slot-last_slot.ensures in
    omega (arith, p.size, p.sizes.items, p.sizes.item_room)

pub overflow_add-place : goal.overflow_add-place
overflow_add-place c =
    let now : Inside = record c.self.inside { slots = c.close_gaps.new.slots; items = c.close_gaps.new.items; blocks_end = c.close_gaps.new.blocks_end; gaps = c.close_gaps.new.gaps; loose = c.close_gaps.new.loose } in
    let t = closed c.self.view_is c.self.invariant c.close_gaps.ensures.kept c.close_gaps.ensures.gaps c.close_gaps.ensures.order in
    let p = placed _ c.args.after c.slot-after_slot.result t.tight (after_there (named (graph_of now).blocks) c.args.first c.args.last c.args.after (rw (← t.view_is) at c.requires.run) (rw (← t.view_is) at c.requires.after)) c.slot-after_slot.ensures in
    omega (arith, p.size, p.sizes.items, p.sizes.item_room)

pub move_piece-requires-clause-piece : goal.move_piece-requires-clause-piece
move_piece-requires-clause-piece c =
    let now : Inside = record c.self.inside { slots = c.close_gaps.new.slots; items = c.close_gaps.new.items; blocks_end = c.close_gaps.new.blocks_end; gaps = c.close_gaps.new.gaps; loose = c.close_gaps.new.loose } in
    let t = closed c.self.view_is c.self.invariant c.close_gaps.ensures.kept c.close_gaps.ensures.gaps c.close_gaps.ensures.order in
    let pf = placed _ c.args.first c.slot-first_slot.result t.tight (let r = rw (← t.view_is) at c.requires.run in r.starts) c.slot-first_slot.ensures in
    let pl = placed _ c.args.last c.slot-last_slot.result t.tight (last_there (named (graph_of now).blocks) c.args.first c.args.last (rw (← t.view_is) at c.requires.run)) c.slot-last_slot.ensures in
    let pa = placed _ c.args.after c.slot-after_slot.result t.tight (after_there (named (graph_of now).blocks) c.args.first c.args.last c.args.after (rw (← t.view_is) at c.requires.run) (rw (← t.view_is) at c.requires.after)) c.slot-after_slot.ensures in
    let ef = ends_at _ c.args.first c.slot-first_slot.result pf in
    let el = ends_at _ c.args.last c.slot-last_slot.result pl in
    let ea = ends_at _ c.args.after c.slot-after_slot.result pa in
    let m = moves (named (graph_of now).blocks) c.args.first c.args.last c.args.after (items_of_bodies (graph_of now).procedures) t.tight.rules.distinct (rw (← t.view_is) at c.requires.run) (rw (← t.view_is) at c.requires.after) in
    omega (arith, ef.start_is, el.end_is, m.start_is, m.end_is, m.piece)

pub move_piece-requires-clause-outside : goal.move_piece-requires-clause-outside
move_piece-requires-clause-outside c =
    let now : Inside = record c.self.inside { slots = c.close_gaps.new.slots; items = c.close_gaps.new.items; blocks_end = c.close_gaps.new.blocks_end; gaps = c.close_gaps.new.gaps; loose = c.close_gaps.new.loose } in
    let t = closed c.self.view_is c.self.invariant c.close_gaps.ensures.kept c.close_gaps.ensures.gaps c.close_gaps.ensures.order in
    let pf = placed _ c.args.first c.slot-first_slot.result t.tight (let r = rw (← t.view_is) at c.requires.run in r.starts) c.slot-first_slot.ensures in
    let pl = placed _ c.args.last c.slot-last_slot.result t.tight (last_there (named (graph_of now).blocks) c.args.first c.args.last (rw (← t.view_is) at c.requires.run)) c.slot-last_slot.ensures in
    let pa = placed _ c.args.after c.slot-after_slot.result t.tight (after_there (named (graph_of now).blocks) c.args.first c.args.last c.args.after (rw (← t.view_is) at c.requires.run) (rw (← t.view_is) at c.requires.after)) c.slot-after_slot.ensures in
    let ef = ends_at _ c.args.first c.slot-first_slot.result pf in
    let el = ends_at _ c.args.last c.slot-last_slot.result pl in
    let ea = ends_at _ c.args.after c.slot-after_slot.result pa in
    let m = moves (named (graph_of now).blocks) c.args.first c.args.last c.args.after (items_of_bodies (graph_of now).procedures) t.tight.rules.distinct (rw (← t.view_is) at c.requires.run) (rw (← t.view_is) at c.requires.after) in
    λ above.
    let above' : m.start < m.place = omega (arith, above, ef.start_is, ea.end_is, m.start_is, m.place_is) in
    omega (arith, m.outside above', el.end_is, ea.end_is, m.end_is, m.place_is)

pub move_piece-requires-clause-end : goal.move_piece-requires-clause-end
move_piece-requires-clause-end c =
    let now : Inside = record c.self.inside { slots = c.close_gaps.new.slots; items = c.close_gaps.new.items; blocks_end = c.close_gaps.new.blocks_end; gaps = c.close_gaps.new.gaps; loose = c.close_gaps.new.loose } in
    let t = closed c.self.view_is c.self.invariant c.close_gaps.ensures.kept c.close_gaps.ensures.gaps c.close_gaps.ensures.order in
    let pf = placed _ c.args.first c.slot-first_slot.result t.tight (let r = rw (← t.view_is) at c.requires.run in r.starts) c.slot-first_slot.ensures in
    let pl = placed _ c.args.last c.slot-last_slot.result t.tight (last_there (named (graph_of now).blocks) c.args.first c.args.last (rw (← t.view_is) at c.requires.run)) c.slot-last_slot.ensures in
    let pa = placed _ c.args.after c.slot-after_slot.result t.tight (after_there (named (graph_of now).blocks) c.args.first c.args.last c.args.after (rw (← t.view_is) at c.requires.run) (rw (← t.view_is) at c.requires.after)) c.slot-after_slot.ensures in
    let ef = ends_at _ c.args.first c.slot-first_slot.result pf in
    let el = ends_at _ c.args.last c.slot-last_slot.result pl in
    let ea = ends_at _ c.args.after c.slot-after_slot.result pa in
    let m = moves (named (graph_of now).blocks) c.args.first c.args.last c.args.after (items_of_bodies (graph_of now).procedures) t.tight.rules.distinct (rw (← t.view_is) at c.requires.run) (rw (← t.view_is) at c.requires.after) in
    omega (arith, pl.size, c.close_gaps.new.items.ok.0)

pub move_piece-requires-clause-place : goal.move_piece-requires-clause-place
move_piece-requires-clause-place c =
    let now : Inside = record c.self.inside { slots = c.close_gaps.new.slots; items = c.close_gaps.new.items; blocks_end = c.close_gaps.new.blocks_end; gaps = c.close_gaps.new.gaps; loose = c.close_gaps.new.loose } in
    let t = closed c.self.view_is c.self.invariant c.close_gaps.ensures.kept c.close_gaps.ensures.gaps c.close_gaps.ensures.order in
    let pf = placed _ c.args.first c.slot-first_slot.result t.tight (let r = rw (← t.view_is) at c.requires.run in r.starts) c.slot-first_slot.ensures in
    let pl = placed _ c.args.last c.slot-last_slot.result t.tight (last_there (named (graph_of now).blocks) c.args.first c.args.last (rw (← t.view_is) at c.requires.run)) c.slot-last_slot.ensures in
    let pa = placed _ c.args.after c.slot-after_slot.result t.tight (after_there (named (graph_of now).blocks) c.args.first c.args.last c.args.after (rw (← t.view_is) at c.requires.run) (rw (← t.view_is) at c.requires.after)) c.slot-after_slot.ensures in
    let ef = ends_at _ c.args.first c.slot-first_slot.result pf in
    let el = ends_at _ c.args.last c.slot-last_slot.result pl in
    let ea = ends_at _ c.args.after c.slot-after_slot.result pa in
    let m = moves (named (graph_of now).blocks) c.args.first c.args.last c.args.after (items_of_bodies (graph_of now).procedures) t.tight.rules.distinct (rw (← t.view_is) at c.requires.run) (rw (← t.view_is) at c.requires.after) in
    omega (arith, pa.size, c.close_gaps.new.items.ok.0)

pub move_run-requires-clause-run : goal.move_run-requires-clause-run
move_run-requires-clause-run c =
    let now : Inside = record c.self.inside { slots = c.close_gaps.new.slots; items = c.close_gaps.new.items; blocks_end = c.close_gaps.new.blocks_end; gaps = c.close_gaps.new.gaps; loose = c.close_gaps.new.loose } in
    let t = closed c.self.view_is c.self.invariant c.close_gaps.ensures.kept c.close_gaps.ensures.gaps c.close_gaps.ensures.order in
    rw t.tight.holds.slots (like_run c.args.first c.args.last _ (named (graph_of now).blocks) (like_slots 0 (graph_of now).blocks) (rw (← t.view_is) at c.requires.run))

pub move_run-requires-clause-after : goal.move_run-requires-clause-after
move_run-requires-clause-after c =
    let now : Inside = record c.self.inside { slots = c.close_gaps.new.slots; items = c.close_gaps.new.items; blocks_end = c.close_gaps.new.blocks_end; gaps = c.close_gaps.new.gaps; loose = c.close_gaps.new.loose } in
    let t = closed c.self.view_is c.self.invariant c.close_gaps.ensures.kept c.close_gaps.ensures.gaps c.close_gaps.ensures.order in
    rw t.tight.holds.slots (like_outside c.args.first c.args.last c.args.after _ (named (graph_of now).blocks) (like_slots 0 (graph_of now).blocks) (rw (← t.view_is) at c.requires.after))

pub move_run-requires-clause-distinct : goal.move_run-requires-clause-distinct
move_run-requires-clause-distinct c =
    let t = closed c.self.view_is c.self.invariant c.close_gaps.ensures.kept c.close_gaps.ensures.gaps c.close_gaps.ensures.order in
    distinct_slots _ t.tight

pub move_run-requires-clause-numbered : goal.move_run-requires-clause-numbered
move_run-requires-clause-numbered c =
    let t = closed c.self.view_is c.self.invariant c.close_gaps.ensures.kept c.close_gaps.ensures.gaps c.close_gaps.ensures.order in
    slots_numbered _ t.tight

pub move_run-requires-clause-fits : goal.move_run-requires-clause-fits
move_run-requires-clause-fits c =
    let t = closed c.self.view_is c.self.invariant c.close_gaps.ensures.kept c.close_gaps.ensures.gaps c.close_gaps.ensures.order in
    slots_fit _ t.tight

pub invariant_of-self-2 : goal.invariant_of-self-2
invariant_of-self-2 c =
    let now : Inside = record c.self.inside { slots = c.close_gaps.new.slots; items = c.close_gaps.new.items; blocks_end = c.close_gaps.new.blocks_end; gaps = c.close_gaps.new.gaps; loose = c.close_gaps.new.loose } in
    let t = closed c.self.view_is c.self.invariant c.close_gaps.ensures.kept c.close_gaps.ensures.gaps c.close_gaps.ensures.order in
    let pf = placed _ c.args.first c.slot-first_slot.result t.tight (let r = rw (← t.view_is) at c.requires.run in r.starts) c.slot-first_slot.ensures in
    let pl = placed _ c.args.last c.slot-last_slot.result t.tight (last_there (named (graph_of now).blocks) c.args.first c.args.last (rw (← t.view_is) at c.requires.run)) c.slot-last_slot.ensures in
    let pa = placed _ c.args.after c.slot-after_slot.result t.tight (after_there (named (graph_of now).blocks) c.args.first c.args.last c.args.after (rw (← t.view_is) at c.requires.run) (rw (← t.view_is) at c.requires.after)) c.slot-after_slot.ensures in
    let ef = ends_at _ c.args.first c.slot-first_slot.result pf in
    let el = ends_at _ c.args.last c.slot-last_slot.result pl in
    let ea = ends_at _ c.args.after c.slot-after_slot.result pa in
    let m = moves (named (graph_of now).blocks) c.args.first c.args.last c.args.after (items_of_bodies (graph_of now).procedures) t.tight.rules.distinct (rw (← t.view_is) at c.requires.run) (rw (← t.view_is) at c.requires.after) in
    (move_shows _ c.args.first c.args.last c.args.after c.slot-first_slot.result.start _ _ c.move_run.new.slots c.move_piece.new.items t.tight (rw (← t.view_is) at c.requires.run) (rw (← t.view_is) at c.requires.after) ef.start_is el.end_is ea.end_is c.move_run.ensures.entries c.move_run.ensures.spare c.move_piece.ensures.items c.move_piece.ensures.capacity (sym c.move_piece.new.items.ok.0 ∙ c.move_piece.ensures.len ∙ c.close_gaps.new.items.ok.0) (rw (← t.view_is) at c.requires.rules)).sound

pub returns-clause-graph : goal.returns-clause-graph
returns-clause-graph c =
    let now : Inside = record c.self.inside { slots = c.close_gaps.new.slots; items = c.close_gaps.new.items; blocks_end = c.close_gaps.new.blocks_end; gaps = c.close_gaps.new.gaps; loose = c.close_gaps.new.loose } in
    let t = closed c.self.view_is c.self.invariant c.close_gaps.ensures.kept c.close_gaps.ensures.gaps c.close_gaps.ensures.order in
    let pf = placed _ c.args.first c.slot-first_slot.result t.tight (let r = rw (← t.view_is) at c.requires.run in r.starts) c.slot-first_slot.ensures in
    let pl = placed _ c.args.last c.slot-last_slot.result t.tight (last_there (named (graph_of now).blocks) c.args.first c.args.last (rw (← t.view_is) at c.requires.run)) c.slot-last_slot.ensures in
    let pa = placed _ c.args.after c.slot-after_slot.result t.tight (after_there (named (graph_of now).blocks) c.args.first c.args.last c.args.after (rw (← t.view_is) at c.requires.run) (rw (← t.view_is) at c.requires.after)) c.slot-after_slot.ensures in
    let ef = ends_at _ c.args.first c.slot-first_slot.result pf in
    let el = ends_at _ c.args.last c.slot-last_slot.result pl in
    let ea = ends_at _ c.args.after c.slot-after_slot.result pa in
    let m = moves (named (graph_of now).blocks) c.args.first c.args.last c.args.after (items_of_bodies (graph_of now).procedures) t.tight.rules.distinct (rw (← t.view_is) at c.requires.run) (rw (← t.view_is) at c.requires.after) in
    (move_shows _ c.args.first c.args.last c.args.after c.slot-first_slot.result.start _ _ c.move_run.new.slots c.move_piece.new.items t.tight (rw (← t.view_is) at c.requires.run) (rw (← t.view_is) at c.requires.after) ef.start_is el.end_is ea.end_is c.move_run.ensures.entries c.move_run.ensures.spare c.move_piece.ensures.items c.move_piece.ensures.capacity (sym c.move_piece.new.items.ok.0 ∙ c.move_piece.ensures.len ∙ c.close_gaps.new.items.ok.0) (rw (← t.view_is) at c.requires.rules)).is
    ∙ ap (λ v. moved_after v.graph c.args.first c.args.last c.args.after) t.view_is

pub returns-clause-spare : goal.returns-clause-spare
returns-clause-spare c =
    let t = closed c.self.view_is c.self.invariant c.close_gaps.ensures.kept c.close_gaps.ensures.gaps c.close_gaps.ensures.order in
    same_room _ _ c.move_run.ensures.spare (ap (λ n. c.self.inside.item_room + c.close_gaps.new.gaps - n) (sym c.move_piece.new.items.ok.0 ∙ c.move_piece.ensures.len ∙ c.close_gaps.new.items.ok.0)) refl
    ∙ ap (λ v. v.spare) t.view_is
