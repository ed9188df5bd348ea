use Rattle.std.proofs.Common.{◌∙◌, refl}
use Rattle.sq_graph.proofs.BackWalks.{next_there, none_done, all_done}
use Rattle.sq_graph.proofs.SlotPasses.{with_starts, uses_there, terms_done, terms_less}
use Rattle.sq_graph.proofs.canonical.retarget_terms.Goals as goal

pub loop-place-init : goal.loop-place-init
loop-place-init c = record {
  walk = none_done (with_starts c.args.slots.now.entries) c.args.slots.now.entries _ c.requires.distinct refl c.last-place.ensures;
  spare = refl;
}

pub previous-place-requires : goal.previous-place-requires
previous-place-requires c =
    let walk = rw c.in-Some.is at c.loop-place.invariant.walk in
    next_there (with_starts c.args.slots.now.entries) c.args.slots.now.entries c.loop-place.slots.entries c.in-Some.name walk

pub slot-found-requires : goal.slot-found-requires
slot-found-requires c =
    let walk = rw c.in-Some.is at c.loop-place.invariant.walk in
    next_there (with_starts c.args.slots.now.entries) c.args.slots.now.entries c.loop-place.slots.entries c.in-Some.name walk

pub retarget_term-term-requires : goal.retarget_term-term-requires
retarget_term-term-requires c =
    let walk = rw c.in-Some.is at c.loop-place.invariant.walk in
    uses_there c.args.slots.now.entries c.loop-place.slots.entries c.in-Some.name c.slot-found.result walk c.requires.known c.slot-found.ensures

pub loop-place-smaller : goal.loop-place-smaller
loop-place-smaller c =
    let walk = rw c.in-Some.is at c.loop-place.invariant.walk in
    let new_is = rw c.retarget_term-term.ensures at c.set.ensures.entries in
    rw c.in-Some.is (terms_less c.args.slots.now.entries c.loop-place.slots.entries c.set.new.slots.entries c.in-Some.name c.previous-place.result c.slot-found.result walk c.slot-found.ensures new_is c.previous-place.ensures)

pub loop-place-preserved : goal.loop-place-preserved
loop-place-preserved c =
    let walk = rw c.in-Some.is at c.loop-place.invariant.walk in
    let new_is = rw c.retarget_term-term.ensures at c.set.ensures.entries in
    record {
      walk = terms_done c.args.slots.now.entries c.loop-place.slots.entries c.set.new.slots.entries c.in-Some.name c.previous-place.result c.slot-found.result walk c.slot-found.ensures new_is c.previous-place.ensures;
      spare = c.set.ensures.spare ∙ c.loop-place.invariant.spare;
    }

pub returns-clause-entries : goal.returns-clause-entries
returns-clause-entries c =
    let walk = rw c.in_default.is at c.loop-place.invariant.walk in
    all_done (with_starts c.args.slots.now.entries) c.args.slots.now.entries c.loop-place.slots.entries walk
