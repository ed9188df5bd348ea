use Rattle.std.proofs.Common.{◌∙◌, ap, length, arith}
use Rattle.sq_arena.proofs.EntriesLemmas.{starting_at-behind}
use Rattle.sq_graph.proofs.CursorLaws.{next_in}
use Rattle.sq_graph.proofs.Packing.{packs_fit, packs_step, packs_all}
use Rattle.sq_graph.proofs.gaps.pack.Goals as goal

pub copy_down-requires-clause-down : goal.copy_down-requires-clause-down
copy_down-requires-clause-down c =
    let packs = rw c.in-Some.is at c.loop-place.invariant.packs in
    (packs_fit c.args.slots.now.entries c.args.end c.args.items.now.items c.loop-place.items.items c.in-Some.name c.slot-found.result c.loop-place.count packs c.slot-found.ensures).down

pub copy_down-requires-clause-there : goal.copy_down-requires-clause-there
copy_down-requires-clause-there c =
    let packs = rw c.in-Some.is at c.loop-place.invariant.packs in
    let fit = packs_fit c.args.slots.now.entries c.args.end c.args.items.now.items c.loop-place.items.items c.in-Some.name c.slot-found.result c.loop-place.count packs c.slot-found.ensures in
    omega (arith, fit.within, c.requires.end, packs.long, c.loop-place.items.ok.0, c.args.items.now.ok.0)

pub overflow_add-count : goal.overflow_add-count
overflow_add-count c =
    let packs = rw c.in-Some.is at c.loop-place.invariant.packs in
    let fit = packs_fit c.args.slots.now.entries c.args.end c.args.items.now.items c.loop-place.items.items c.in-Some.name c.slot-found.result c.loop-place.count packs c.slot-found.ensures in
    omega (arith, fit.down, fit.within, c.ranges.end.fits)

pub loop-place-smaller : goal.loop-place-smaller
loop-place-smaller c =
    let next = next_in c.args.slots.now.entries c.in-Some.name c.slot-found.result c.requires.distinct c.slot-found.ensures in
    rw (c.in-Some.is, c.next-place.ensures) (omega (arith, ap (λ es. length es) next.1, ap (λ es. length es) (starting_at-behind c.args.slots.now.entries c.in-Some.name c.slot-found.result c.slot-found.ensures)))

pub loop-place-preserved : goal.loop-place-preserved
loop-place-preserved c =
    let packs = rw c.in-Some.is at c.loop-place.invariant.packs in
    record {
      packs =
          rw c.next-place.ensures
          (packs_step c.args.slots.now.entries c.args.end c.args.items.now.items c.loop-place.items.items c.copy_down.new.items.items c.in-Some.name c.slot-found.result c.loop-place.count c.requires.distinct (omega (arith, c.requires.end, c.args.items.now.ok.0)) packs c.slot-found.ensures c.copy_down.ensures.items);
      capacity = c.copy_down.ensures.capacity ∙ c.loop-place.invariant.capacity;
    }

pub returns-clause-items : goal.returns-clause-items
returns-clause-items c =
    let packs = rw c.in_default.is at c.loop-place.invariant.packs in
    c.cut.ensures.items ∙ (packs_all c.args.slots.now.entries c.args.end c.args.items.now.items c.loop-place.items.items c.loop-place.count packs).all
