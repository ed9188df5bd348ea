use Rattle.std.proofs.Common.{◌∙◌, ap, sym, arith, length}
use Rattle.sq_graph.specs.CanonicalSlots.{full_slots}
use Rattle.sq_graph.proofs.BackWalks.{next_done, next_there, one_done, one_less, all_done}
use Rattle.sq_graph.proofs.CursorLaws.{distinct-with_value, length-with_value}
use Rattle.sq_graph.proofs.SlotPasses.{bare_is, full_is, length-without}
use Rattle.sq_graph.proofs.canonical.unlink_bare.Goals as goal

pub previous-place-requires : goal.previous-place-requires
previous-place-requires c =
    let walk = rw c.in-Some.is at c.loop-place.invariant.walk in
    next_there full_slots c.args.slots.now.entries c.loop-place.slots.entries c.in-Some.name walk

pub slot-found-requires : goal.slot-found-requires
slot-found-requires c =
    let walk = rw c.in-Some.is at c.loop-place.invariant.walk in
    next_there full_slots c.args.slots.now.entries c.loop-place.slots.entries c.in-Some.name walk

pub loop-place-smaller-then-is_bare : goal.loop-place-smaller-then-is_bare
loop-place-smaller-then-is_bare c =
    let walk = rw c.in-Some.is at c.loop-place.invariant.walk in
    let next = next_done full_slots c.args.slots.now.entries c.loop-place.slots.entries c.in-Some.name walk in
    let is = bare_is c.args.slots.now.entries c.loop-place.slots.entries c.unlink.new.self.entries c.in-Some.name c.slot-found.result next c.slot-found.ensures (sym c.is_bare.ensures ∙ c.if-is_bare.true) c.unlink.ensures.entries in
    rw c.in-Some.is (one_less full_slots c.args.slots.now.entries c.loop-place.slots.entries c.unlink.new.self.entries c.in-Some.name c.previous-place.result next is c.unlink.ensures.distinct c.previous-place.ensures)

pub loop-place-preserved-then-is_bare : goal.loop-place-preserved-then-is_bare
loop-place-preserved-then-is_bare c =
    let walk = rw c.in-Some.is at c.loop-place.invariant.walk in
    let next = next_done full_slots c.args.slots.now.entries c.loop-place.slots.entries c.in-Some.name walk in
    let is = bare_is c.args.slots.now.entries c.loop-place.slots.entries c.unlink.new.self.entries c.in-Some.name c.slot-found.result next c.slot-found.ensures (sym c.is_bare.ensures ∙ c.if-is_bare.true) c.unlink.ensures.entries in
    record {
      walk = one_done full_slots c.args.slots.now.entries c.loop-place.slots.entries c.unlink.new.self.entries c.in-Some.name c.previous-place.result next is c.unlink.ensures.distinct c.previous-place.ensures;
      total = omega (arith, c.loop-place.invariant.total, c.unlink.ensures.spare, ap (λ es. length es) c.unlink.ensures.entries, length-without c.loop-place.slots.entries c.in-Some.name c.slot-found.result c.slot-found.ensures);
    }

pub loop-place-smaller : goal.loop-place-smaller
loop-place-smaller c =
    let walk = rw c.in-Some.is at c.loop-place.invariant.walk in
    let next = next_done full_slots c.args.slots.now.entries c.loop-place.slots.entries c.in-Some.name walk in
    let is = full_is c.args.slots.now.entries c.loop-place.slots.entries c.set.new.slots.entries c.in-Some.name c.slot-found.result next c.slot-found.ensures (sym c.is_bare.ensures ∙ c.if-is_bare.false) c.set.ensures.entries in
    rw c.in-Some.is (one_less full_slots c.args.slots.now.entries c.loop-place.slots.entries c.set.new.slots.entries c.in-Some.name c.previous-place.result next is (rw c.set.ensures.entries (distinct-with_value c.loop-place.slots.entries c.in-Some.name (record c.slot-found.result { start = 0 }) walk.distinct)) c.previous-place.ensures)

pub loop-place-preserved : goal.loop-place-preserved
loop-place-preserved c =
    let walk = rw c.in-Some.is at c.loop-place.invariant.walk in
    let next = next_done full_slots c.args.slots.now.entries c.loop-place.slots.entries c.in-Some.name walk in
    let is = full_is c.args.slots.now.entries c.loop-place.slots.entries c.set.new.slots.entries c.in-Some.name c.slot-found.result next c.slot-found.ensures (sym c.is_bare.ensures ∙ c.if-is_bare.false) c.set.ensures.entries in
    record {
      walk = one_done full_slots c.args.slots.now.entries c.loop-place.slots.entries c.set.new.slots.entries c.in-Some.name c.previous-place.result next is (rw c.set.ensures.entries (distinct-with_value c.loop-place.slots.entries c.in-Some.name (record c.slot-found.result { start = 0 }) walk.distinct)) c.previous-place.ensures;
      total = omega (arith, c.loop-place.invariant.total, c.set.ensures.spare, ap (λ es. length es) c.set.ensures.entries, length-with_value c.loop-place.slots.entries c.in-Some.name (record c.slot-found.result { start = 0 }));
    }

pub returns-clause-entries : goal.returns-clause-entries
returns-clause-entries c =
    let walk = rw c.in_default.is at c.loop-place.invariant.walk in
    all_done full_slots c.args.slots.now.entries c.loop-place.slots.entries walk
