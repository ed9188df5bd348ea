use Rattle.std.proofs.Common.{IsTrue, Some, None, ◌<◌, get_or, sym, subst}
use Rattle.std.specs.Prelude.{slice_index}
use Rattle.std.proofs.lemmas.Option.{slice_get-get_or}
use Rattle.law_patch.specs.Bodies.{HaveBodies}
use Rattle.sq_tail.proofs.BodiesFound.{IsOpen, steps_left, open_first, open_next, open_none, open_smaller, open_within, place_within}
use Rattle.sq_tail.proofs.bodies.kept_ahead.Goals as goal

pub loop-at-init : goal.loop-at-init
loop-at-init c =
    let live = c.args.live.now in
    let g = c.args.graph.now.graph in
    let names = c.args.names.now in
    let earlier = c.args.earlier.now in
    let place = c.args.place in
    open_first live g names place c.requires.place c.learn.ensures.rules c.requires.live earlier (get_or earlier place None) c.requires.earlier
    (slice_get-get_or earlier place None (place_within live g names place c.requires.place c.learn.ensures.rules c.requires.live earlier c.requires.earlier))

pub loop-at-smaller : goal.loop-at-smaller
loop-at-smaller c =
    let live = c.args.live.now in
    let g = c.args.graph.now.graph in
    let names = c.args.names.now in
    let earlier = c.args.earlier.now in
    let place = c.args.place in
    let other = c.in-Some.other in
    let before : IsOpen c.args.live.now c.args.graph.now.graph c.args.names.now c.args.place (Some c.in-Some.other) = subst (IsOpen live g names place) c.in-Some.is c.loop-at.invariant in
    let within = open_within live g names place c.requires.place c.learn.ensures.rules c.requires.live earlier other c.requires.earlier before in
    subst (λ at. steps_left (get_or c.args.earlier.now c.in-Some.other None) < steps_left at) (sym c.in-Some.is)
    (open_smaller live g names place c.requires.place c.learn.ensures.rules c.requires.live earlier other (get_or earlier other None) c.requires.earlier (slice_get-get_or earlier other None within))

pub loop-at-preserved : goal.loop-at-preserved
loop-at-preserved c =
    let live = c.args.live.now in
    let g = c.args.graph.now.graph in
    let names = c.args.names.now in
    let earlier = c.args.earlier.now in
    let place = c.args.place in
    let other = c.in-Some.other in
    let before : IsOpen c.args.live.now c.args.graph.now.graph c.args.names.now c.args.place (Some c.in-Some.other) = subst (IsOpen live g names place) c.in-Some.is c.loop-at.invariant in
    let within = open_within live g names place c.requires.place c.learn.ensures.rules c.requires.live earlier other c.requires.earlier before in
    let fails : ¬ HaveBodies c.args.graph.now.graph (slice_index c.args.names.now c.args.place) (slice_index c.args.names.now c.in-Some.other) =
    λ have.
    let sure : IsTrue c.have_bodies.result = c.have_bodies.ensures.1 have in
    let not_so = c.if-have_bodies.false in
    absurd (cc) in
    open_next live g names place c.requires.place c.learn.ensures.rules c.requires.live earlier other (get_or earlier other None) c.requires.earlier before fails (slice_get-get_or earlier other None within)

pub returns : goal.returns
returns c =
    let live = c.args.live.now in
    let g = c.args.graph.now.graph in
    let names = c.args.names.now in
    let place = c.args.place in
    open_none live g names place c.requires.place c.learn.ensures.rules c.requires.live (subst (IsOpen live g names place) c.in_default.is c.loop-at.invariant)
