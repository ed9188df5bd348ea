use Rattle.std.proofs.Common.{◌∙◌, refl}
use Rattle.sq_graph.specs.CanonicalSlots.{cleared}
use Rattle.sq_graph.proofs.BackWalks.{next_there, none_done, all_done}
use Rattle.sq_graph.proofs.BareSlots.{clear_done, clear_less, all_seen}
use Rattle.sq_graph.proofs.canonical.clear.Goals as goal

pub loop-place-init : goal.loop-place-init
loop-place-init c = record {
  clears = record { walk = none_done cleared c.args.slots.now.entries _ c.requires refl c.last-place.ensures; bare_is = refl };
  spare = refl;
}

pub returns-clause-entries : goal.returns-clause-entries
returns-clause-entries c =
    let clears = rw c.in_default.is at c.loop-place.invariant.clears in
    all_done cleared c.args.slots.now.entries c.loop-place.slots.entries clears.walk

pub previous-place-requires : goal.previous-place-requires
previous-place-requires c =
    let clears = rw c.in-Some.is at c.loop-place.invariant.clears in
    next_there cleared c.args.slots.now.entries c.loop-place.slots.entries c.in-Some.name clears.walk

pub slot-found-requires : goal.slot-found-requires
slot-found-requires c =
    let clears = rw c.in-Some.is at c.loop-place.invariant.clears in
    next_there cleared c.args.slots.now.entries c.loop-place.slots.entries c.in-Some.name clears.walk

pub loop-place-smaller : goal.loop-place-smaller
loop-place-smaller c =
    let clears = rw c.in-Some.is at c.loop-place.invariant.clears in
    rw c.in-Some.is (clear_less c.args.slots.now.entries c.loop-place.slots.entries c.set.new.slots.entries c.in-Some.name c.previous-place.result c.loop-place.bare c.slot-found.result clears c.slot-found.ensures c.set.ensures.entries c.previous-place.ensures)

pub loop-place-preserved : goal.loop-place-preserved
loop-place-preserved c =
    let clears = rw c.in-Some.is at c.loop-place.invariant.clears in
    record {
      clears =
          rw c.is_bare-bare.ensures
          (clear_done c.args.slots.now.entries c.loop-place.slots.entries c.set.new.slots.entries c.in-Some.name c.previous-place.result c.loop-place.bare c.slot-found.result clears c.slot-found.ensures c.set.ensures.entries c.previous-place.ensures);
      spare = c.set.ensures.spare ∙ c.loop-place.invariant.spare;
    }

pub returns-clause-bare : goal.returns-clause-bare
returns-clause-bare c =
    let clears = rw c.in_default.is at c.loop-place.invariant.clears in
    all_seen c.args.slots.now.entries c.loop-place.slots.entries c.loop-place.bare clears
