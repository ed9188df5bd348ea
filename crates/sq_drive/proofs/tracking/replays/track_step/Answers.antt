use Rattle.std.proofs.Common.{◌≡◌, ℕ, map, Ok, nat_eq, sym, ap, ◌∙◌, subst}
use Rattle.std.specs.HashMap.{get}
use Rattle.sq_graph.specs.Canonical.{canonical_of}
use Rattle.sq_graph.specs.Graph.{Graph}
use Rattle.sq_graph.specs.Parts.{names_of}
use Rattle.sq_graph.specs.Room.{GraphAndRoom}
use Rattle.sq_graph.specs.Slotted.{number_in, slotted, IsSlotted}
use Rattle.sq_graph.proofs.Slotting.{slotted_again}
use Rattle.sq_drive.specs.Rows.{described}
use Rattle.sq_drive.proofs.KeptStarts.{starts_kept}
use Rattle.sq_drive.proofs.Replays.{tidy_lighter, less_by}
use Rattle.sq_drive.proofs.Tracked.{next_made, tracks_made, stepped}
use Rattle.sq_drive.proofs.tracking.replays.track_step.Goals as goal

pub returns-clause-carried : goal.returns-clause-carried
returns-clause-carried c =
    let step = c.args.step.now in
    let old = c.args.graph.now.graph in
    let made = c.make.new.graph.graph in
    let is = c.in_ok-make.ensures.made (ap Ok c.if-not-branch.false) in
    let slots : (x : ℕ) → get nat_eq c.in_ok-slots.slots x ≡ number_in (names_of (canonical_of made)) 0 x =
    λ x. c.in_ok-slots.ensures x ∙ ap (λ (g : Graph). number_in (names_of g) 0 x) c.canonical.ensures.graph
    in (
      is.given,
      c.in_ok-name_by_slots.ensures.graph ∙ ap slotted c.canonical.ensures.graph ∙ next_made step old made is,
      stepped step old c.in_ok-old.old.graph made (get nat_eq c.in_ok-landings.landings) (get nat_eq c.in_ok-slots.slots) c.args.tracks.now c.deref.result.now c.in_ok-stand_all.field-0.items
          (ap (λ (g : GraphAndRoom). g.graph) c.in_ok-old.ensures) (c.deref.ensures.value ∙ c.in_ok-left.ensures) c.in_ok-stand_all.ensures c.in_ok-landings.ensures slots
          ∙ ap (λ carry. map carry c.args.tracks.now) (tracks_made step old made is c.learn.ensures.rules),
    )

pub returns-clause-starts : goal.returns-clause-starts
unfolding returns-clause-carried
returns-clause-starts c =
    let is = c.in_ok-make.ensures.made (ap Ok c.if-not-branch.false) in
    let carried = returns-clause-carried c in
    starts_kept c.args.step.now c.args.graph.now.graph c.make.new.graph.graph c.name_by_slots.new.self.graph c.args.tracks.now c.in_ok-stand_all.field-0.items c.learn.ensures.rules is carried.1 carried.2

pub returns-clause-less : goal.returns-clause-less
returns-clause-less c =
    let old = c.args.graph.now.graph in
    let made = c.make.new.graph.graph in
    let canonical = c.canonical.new.self.graph in
    let new = c.name_by_slots.new.self.graph in
    let m = c.in_ok-make.ensures.made (ap Ok c.if-not-branch.false) in
    let lighter = tidy_lighter made canonical new c.learn-2.ensures.rules c.canonical.ensures.rules c.canonical.ensures.graph c.canonical.ensures.canonical c.canonical.ensures.words c.in_ok-name_by_slots.ensures.graph in
    less_by m.given.cut.saving (described old m.given.cut) old made new m.applied lighter (subst IsSlotted (sym c.in_ok-name_by_slots.ensures.graph) (slotted_again canonical c.canonical.ensures.rules))
