use Rattle.std.proofs.Common.{◌∙◌, ap, refl, is_some}
use Rattle.sq_graph.specs.Cursor.{slot_uses}
use Rattle.sq_graph.proofs.Marks.{distinct-marked, none_marked, all_marked, next_marked, one_marked, mark_less}
use Rattle.sq_graph.proofs.canonical.mark_terms.Goals as goal

pub loop-place-init : goal.loop-place-init
loop-place-init c = record { marks = none_marked c.args.slots.now.entries _ c.last-place.ensures; spare = refl }

pub previous-place-requires : goal.previous-place-requires
previous-place-requires c =
    let marks = rw c.in-Some.is at c.loop-place.invariant.marks in
    let next = next_marked c.args.slots.now.entries c.loop-place.slots.entries c.in-Some.name c.requires marks in
    ap is_some next.at.found

pub slot-found-requires : goal.slot-found-requires
slot-found-requires c =
    let marks = rw c.in-Some.is at c.loop-place.invariant.marks in
    let next = next_marked c.args.slots.now.entries c.loop-place.slots.entries c.in-Some.name c.requires marks in
    ap is_some next.at.found

pub mark_term-requires : goal.mark_term-requires
mark_term-requires c =
    let marks = rw c.in-Some.is at c.loop-place.invariant.marks in
    rw marks.is (distinct-marked (slot_uses marks.back) c.args.slots.now.entries c.requires)

pub loop-place-smaller : goal.loop-place-smaller
loop-place-smaller c =
    let marks = rw c.in-Some.is at c.loop-place.invariant.marks in
    let next = next_marked c.args.slots.now.entries c.loop-place.slots.entries c.in-Some.name c.requires marks in
    rw c.in-Some.is (mark_less c.args.slots.now.entries c.loop-place.slots.entries c.mark_term.new.slots.entries c.in-Some.name c.previous-place.result c.slot-found.result next c.slot-found.ensures c.mark_term.ensures.entries c.previous-place.ensures c.requires)

pub loop-place-preserved : goal.loop-place-preserved
loop-place-preserved c =
    let marks = rw c.in-Some.is at c.loop-place.invariant.marks in
    let next = next_marked c.args.slots.now.entries c.loop-place.slots.entries c.in-Some.name c.requires marks in
    record {
      marks = one_marked c.args.slots.now.entries c.loop-place.slots.entries c.mark_term.new.slots.entries c.in-Some.name c.previous-place.result c.slot-found.result next c.slot-found.ensures c.mark_term.ensures.entries c.previous-place.ensures;
      spare = c.mark_term.ensures.spare ∙ c.loop-place.invariant.spare;
    }

pub returns-clause-entries : goal.returns-clause-entries
returns-clause-entries c =
    let marks = rw c.in_default.is at c.loop-place.invariant.marks in
    all_marked c.args.slots.now.entries c.loop-place.slots.entries marks
