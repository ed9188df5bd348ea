use Rattle.std.proofs.Common.{◌+◌, ◌<◌, ◌∙◌, length, refl, ap, arith}
use Rattle.std.proofs.lemmas.Option.{slice_get_read}
use Rattle.std.specs.Vec.{with_item}
use Rattle.sq_graph.specs.Operations.{with_body_item}
use Rattle.sq_graph.proofs.Sizes.{sizes}
use Rattle.sq_graph.proofs.BodyReads.{reads_body}
use Rattle.sq_graph.proofs.BodySets.{has_body_item, set_body_item_shows}
use Rattle.sq_graph.proofs.graph.Graph.set_body_item.Goals as goal

pub index-body-requires : goal.index-body-requires
index-body-requires c =
    let size = sizes c.self.inside c.self.invariant in
    let procedure = rw (← c.self.view_is) at c.requires.procedure in
    omega (arith, size.counted, c.self.inside.bodies.ok.0, procedure)

pub overflow_add-place : goal.overflow_add-place
overflow_add-place c =
    let size = sizes c.self.inside c.self.invariant in
    let procedure = rw (← c.self.view_is) at c.requires.procedure in
    let inside : c.args.procedure < length c.self.inside.bodies.items = omega (arith, size.counted, procedure) in
    let found = slice_get_read c.self.inside.bodies.items _ c.args.procedure _ c.self.inside.bodies.ok.0 (omega (arith, inside, c.self.inside.bodies.ok.0)) c.index-body.ensures in
    let read = reads_body c.self.inside c.args.procedure c.index-body.result.now c.self.invariant found in
    omega (arith, read.within, size.items, size.item_room)

pub overflow_add-place-2 : goal.overflow_add-place-2
overflow_add-place-2 c =
    let size = sizes c.self.inside c.self.invariant in
    let procedure = rw (← c.self.view_is) at c.requires.procedure in
    let inside : c.args.procedure < length c.self.inside.bodies.items = omega (arith, size.counted, procedure) in
    let found = slice_get_read c.self.inside.bodies.items _ c.args.procedure _ c.self.inside.bodies.ok.0 (omega (arith, inside, c.self.inside.bodies.ok.0)) c.index-body.ensures in
    let there = has_body_item c.self.inside c.args.procedure c.index-body.result.now c.args.at c.self.invariant found (rw (← c.self.view_is) at c.requires.there) in
    let read = reads_body c.self.inside c.args.procedure c.index-body.result.now c.self.invariant found in
    omega (arith, there, read.within, size.items, size.item_room)

pub index_mut-requires : goal.index_mut-requires
index_mut-requires c =
    let size = sizes c.self.inside c.self.invariant in
    let procedure = rw (← c.self.view_is) at c.requires.procedure in
    let inside : c.args.procedure < length c.self.inside.bodies.items = omega (arith, size.counted, procedure) in
    let found = slice_get_read c.self.inside.bodies.items _ c.args.procedure _ c.self.inside.bodies.ok.0 (omega (arith, inside, c.self.inside.bodies.ok.0)) c.index-body.ensures in
    let there = has_body_item c.self.inside c.args.procedure c.index-body.result.now c.args.at c.self.invariant found (rw (← c.self.view_is) at c.requires.there) in
    let read = reads_body c.self.inside c.args.procedure c.index-body.result.now c.self.invariant found in
    omega (arith, there, read.within, c.self.inside.items.ok.0)

pub invariant_of-self : goal.invariant_of-self
invariant_of-self c =
    let size = sizes c.self.inside c.self.invariant in
    let procedure = rw (← c.self.view_is) at c.requires.procedure in
    let inside : c.args.procedure < length c.self.inside.bodies.items = omega (arith, size.counted, procedure) in
    let found = slice_get_read c.self.inside.bodies.items _ c.args.procedure _ c.self.inside.bodies.ok.0 (omega (arith, inside, c.self.inside.bodies.ok.0)) c.index-body.ensures in
    let there = has_body_item c.self.inside c.args.procedure c.index-body.result.now c.args.at c.self.invariant found (rw (← c.self.view_is) at c.requires.there) in
    (set_body_item_shows c.self.inside c.args.procedure c.index-body.result.now c.args.at c.args.item (with_item c.self.inside.items (c.self.inside.blocks_end + c.index-body.result.now.start + c.args.at) c.args.item) c.self.invariant found there refl refl (rw (← c.self.view_is) at c.requires.rules)).sound

pub returns-clause-graph : goal.returns-clause-graph
returns-clause-graph c =
    let size = sizes c.self.inside c.self.invariant in
    let procedure = rw (← c.self.view_is) at c.requires.procedure in
    let inside : c.args.procedure < length c.self.inside.bodies.items = omega (arith, size.counted, procedure) in
    let found = slice_get_read c.self.inside.bodies.items _ c.args.procedure _ c.self.inside.bodies.ok.0 (omega (arith, inside, c.self.inside.bodies.ok.0)) c.index-body.ensures in
    let there = has_body_item c.self.inside c.args.procedure c.index-body.result.now c.args.at c.self.invariant found (rw (← c.self.view_is) at c.requires.there) in
    (set_body_item_shows c.self.inside c.args.procedure c.index-body.result.now c.args.at c.args.item (with_item c.self.inside.items (c.self.inside.blocks_end + c.index-body.result.now.start + c.args.at) c.args.item) c.self.invariant found there refl refl (rw (← c.self.view_is) at c.requires.rules)).is
    ∙ ap (λ v. with_body_item v.graph c.args.procedure c.args.at c.args.item) c.self.view_is
