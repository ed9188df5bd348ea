use Rattle.std.proofs.Common.{◌≡◌, ◌∙◌, refl, sym, ap, if◌then◌else◌}
use Rattle.sq_graph.specs.CanonicalSlots.{is_bare_slot, aimed}
use Rattle.sq_graph.proofs.BackWalks.{next_there, none_done, all_done}
use Rattle.sq_graph.proofs.SlotPasses.{aim_done, aim_less}
use Rattle.sq_graph.proofs.canonical.aim.Goals as goal
use Rattle.sq_graph.proofs.canonical.aim.Goals.{then-not-is_bare, else-not-is_bare}

pub loop-place-init : goal.loop-place-init
loop-place-init c = record {
  aims = record { walk = none_done aimed c.args.slots.now.entries _ c.requires refl c.last-place.ensures; to_is = refl };
  spare = refl;
}

pub returns-clause-entries : goal.returns-clause-entries
returns-clause-entries c =
    let aims = rw c.in_default.is at c.loop-place.invariant.aims in
    all_done aimed c.args.slots.now.entries c.loop-place.slots.entries aims.walk

pub previous-place-requires : goal.previous-place-requires
previous-place-requires c =
    let aims = rw c.in-Some.is at c.loop-place.invariant.aims in
    next_there aimed c.args.slots.now.entries c.loop-place.slots.entries c.in-Some.name aims.walk

pub slot-found-requires : goal.slot-found-requires
slot-found-requires c =
    let aims = rw c.in-Some.is at c.loop-place.invariant.aims in
    next_there aimed c.args.slots.now.entries c.loop-place.slots.entries c.in-Some.name aims.walk

pub loop-place-smaller : goal.loop-place-smaller
loop-place-smaller c =
    let aims = rw c.in-Some.is at c.loop-place.invariant.aims in
    let goes : c.if-not-is_bare.to ≡ (if is_bare_slot c.slot-found.result then c.loop-place.to else c.in-Some.name) =
    elim c.if-not-is_bare.branch [
      | then-not-is_bare w ↦ w.to-is ∙ ap (λ b. if b then c.loop-place.to else c.in-Some.name) (sym (sym c.is_bare.ensures ∙ w.if-not-is_bare.true))
      | else-not-is_bare w ↦ w.to-is ∙ ap (λ b. if b then c.loop-place.to else c.in-Some.name) (sym (sym c.is_bare.ensures ∙ w.if-not-is_bare.false))
    ] in
    rw c.in-Some.is (aim_less c.args.slots.now.entries c.loop-place.slots.entries c.set.new.slots.entries c.in-Some.name c.previous-place.result c.loop-place.to c.slot-found.result aims c.slot-found.ensures c.if-not-is_bare.to goes c.set.ensures.entries c.previous-place.ensures)

pub loop-place-preserved : goal.loop-place-preserved
loop-place-preserved c =
    let aims = rw c.in-Some.is at c.loop-place.invariant.aims in
    let goes : c.if-not-is_bare.to ≡ (if is_bare_slot c.slot-found.result then c.loop-place.to else c.in-Some.name) =
    elim c.if-not-is_bare.branch [
      | then-not-is_bare w ↦ w.to-is ∙ ap (λ b. if b then c.loop-place.to else c.in-Some.name) (sym (sym c.is_bare.ensures ∙ w.if-not-is_bare.true))
      | else-not-is_bare w ↦ w.to-is ∙ ap (λ b. if b then c.loop-place.to else c.in-Some.name) (sym (sym c.is_bare.ensures ∙ w.if-not-is_bare.false))
    ] in
    record {
      aims = aim_done c.args.slots.now.entries c.loop-place.slots.entries c.set.new.slots.entries c.in-Some.name c.previous-place.result c.loop-place.to c.slot-found.result aims c.slot-found.ensures c.if-not-is_bare.to goes c.set.ensures.entries c.previous-place.ensures;
      spare = c.set.ensures.spare ∙ c.loop-place.invariant.spare;
    }
