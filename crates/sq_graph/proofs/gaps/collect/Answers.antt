use Rattle.std.proofs.Common.{◌≡◌, ◌++◌, length, IsOk, ap, ◌∙◌, arith}
use Rattle.sq_arena.proofs.EntriesLemmas.{starting_at-behind}
use Rattle.sq_graph.proofs.CursorLaws.{next_in}
use Rattle.sq_graph.proofs.Collecting.{collectable, collects_step}
use Rattle.sq_graph.proofs.gaps.collect.Goals as goal

pub piece-part-requires : goal.piece-part-requires
piece-part-requires c =
    let so_far = rw c.in-Some.is at c.loop-place.invariant.collects in
    (collectable c.args.slots.now.entries c.args.items.now c.loop-place.to.items c.in-Some.name c.slot-found.result c.requires.there so_far c.slot-found.ensures).within

pub unreachable-requires : goal.unreachable-requires
unreachable-requires c =
    let so_far = rw c.in-Some.is at c.loop-place.invariant.collects in
    let can = collectable c.args.slots.now.entries c.args.items.now c.loop-place.to.items c.in-Some.name c.slot-found.result c.requires.there so_far c.slot-found.ensures in
    let ok : IsOk c.extend_from_slice.result = c.extend_from_slice.ensures.succeeds (omega (arith, can.room, can.long, ap length c.piece-part.ensures, c.requires.room, c.loop-place.invariant.capacity, c.loop-place.to.ok.0)) in
    grind (arith, ok, c.is_err.ensures.negation, c.if-is_err.true)

pub loop-place-smaller : goal.loop-place-smaller
loop-place-smaller c =
    let next = next_in c.args.slots.now.entries c.in-Some.name c.slot-found.result c.requires.distinct c.slot-found.ensures in
    rw (c.in-Some.is, c.next-place.ensures) (omega (arith, ap (λ es. length es) next.1, ap (λ es. length es) (starting_at-behind c.args.slots.now.entries c.in-Some.name c.slot-found.result c.slot-found.ensures)))

pub loop-place-preserved : goal.loop-place-preserved
loop-place-preserved c =
    let so_far = rw c.in-Some.is at c.loop-place.invariant.collects in
    let items : c.extend_from_slice.new.self.items ≡ c.loop-place.to.items ++ c.piece-part.result.now = grind (arith, c.extend_from_slice.ensures.items, c.is_err.ensures.negation, c.if-is_err.false) in
    record {
      collects =
          rw c.next-place.ensures
          (collects_step c.args.slots.now.entries c.args.items.now c.loop-place.to.items c.extend_from_slice.new.self.items c.in-Some.name c.slot-found.result c.requires.distinct c.requires.there so_far c.slot-found.ensures (items ∙ ap (λ ys. c.loop-place.to.items ++ ys) c.piece-part.ensures));
      capacity = omega (arith, c.loop-place.invariant.capacity, c.extend_from_slice.ensures.capacity);
    }
