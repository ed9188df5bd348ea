use Rattle.std.proofs.Common.{ap, arith}
use Rattle.sq_graph.specs.Cursor.{length_of_slots}
use Rattle.sq_graph.proofs.RunMoves.{last_there, after_there, length-moved_slots, moves_slots}
use Rattle.sq_graph.proofs.slots.move_run.Goals as goal

pub end-to-requires-clause-there : goal.end-to-requires-clause-there
end-to-requires-clause-there c = last_there c.args.slots.now.entries c.args.first c.args.last c.requires.run

pub end-place-requires-clause-there : goal.end-place-requires-clause-there
end-place-requires-clause-there c =
    after_there c.args.slots.now.entries c.args.first c.args.last c.args.after c.requires.run c.requires.after

pub next-next-requires : goal.next-next-requires
next-next-requires c = last_there c.args.slots.now.entries c.args.first c.args.last c.requires.run

pub next-passed-requires : goal.next-passed-requires
next-passed-requires c =
    rw (c.move_range_after.ensures.values c.args.last) (last_there c.args.slots.now.entries c.args.first c.args.last c.requires.run)

pub overflow_sub-to : goal.overflow_sub-to
overflow_sub-to c =
    (moves_slots c.args.slots.now.entries c.args.first c.args.last c.args.after c.start-from.result c.end-to.result c.end-place.result c.requires.distinct c.requires.numbered c.requires.run c.requires.after c.start-from.ensures c.end-to.ensures c.end-place.ensures).run

pub renumber_exchanged-requires-clause-exchanged : goal.renumber_exchanged-requires-clause-exchanged
renumber_exchanged-requires-clause-exchanged c =
    rw (c.next-passed.ensures, c.move_range_after.ensures.entries)
    ((moves_slots c.args.slots.now.entries c.args.first c.args.last c.args.after c.start-from.result c.end-to.result c.end-place.result c.requires.distinct c.requires.numbered c.requires.run c.requires.after c.start-from.ensures c.end-to.ensures c.end-place.ensures).back c.if-place-from.true)

pub renumber_exchanged-requires-clause-fits : goal.renumber_exchanged-requires-clause-fits
renumber_exchanged-requires-clause-fits c =
    omega (arith, ap length_of_slots c.move_range_after.ensures.entries, length-moved_slots c.args.slots.now.entries c.args.first c.args.last c.args.after c.requires.run, c.requires.fits)

pub overflow_sub-to-else-place-from : goal.overflow_sub-to-else-place-from
overflow_sub-to-else-place-from c =
    (moves_slots c.args.slots.now.entries c.args.first c.args.last c.args.after c.start-from.result c.end-to.result c.end-place.result c.requires.distinct c.requires.numbered c.requires.run c.requires.after c.start-from.ensures c.end-to.ensures c.end-place.ensures).run

pub overflow_sub-place : goal.overflow_sub-place
overflow_sub-place c =
    (moves_slots c.args.slots.now.entries c.args.first c.args.last c.args.after c.start-from.result c.end-to.result c.end-place.result c.requires.distinct c.requires.numbered c.requires.run c.requires.after c.start-from.ensures c.end-to.ensures c.end-place.ensures).fits (omega (arith, c.if-place-from.false))

pub renumber_exchanged-requires-else-place-from-clause-exchanged : goal.renumber_exchanged-requires-else-place-from-clause-exchanged
renumber_exchanged-requires-else-place-from-clause-exchanged c =
    rw (c.next-next.ensures, c.move_range_after.ensures.entries)
    ((moves_slots c.args.slots.now.entries c.args.first c.args.last c.args.after c.start-from.result c.end-to.result c.end-place.result c.requires.distinct c.requires.numbered c.requires.run c.requires.after c.start-from.ensures c.end-to.ensures c.end-place.ensures).ahead (omega (arith, c.if-place-from.false)))

pub renumber_exchanged-requires-else-place-from-clause-fits : goal.renumber_exchanged-requires-else-place-from-clause-fits
renumber_exchanged-requires-else-place-from-clause-fits c =
    omega (arith, ap length_of_slots c.move_range_after.ensures.entries, length-moved_slots c.args.slots.now.entries c.args.first c.args.last c.args.after c.requires.run, c.requires.fits)
