use Rattle.std.proofs.Common.{◌∙◌, ◌<◌, ◌+◌, length, ap, sym, take, drop, arith}
use Rattle.std.proofs.lemmas.Option.{slice_get_read}
use Rattle.sq_graph.specs.Blocks.{procedure_body}
use Rattle.sq_graph.proofs.BodyReads.{reads_body}
use Rattle.sq_graph.proofs.Sizes.{sizes}
use Rattle.sq_graph.proofs.graph.Graph.body.Goals as goal

pub index-body-requires : goal.index-body-requires
index-body-requires c =
    let size = sizes c.self.inside c.self.invariant in
    let there = rw (← c.self.view_is) at c.requires in
    omega (arith, size.counted, c.self.inside.bodies.ok.0, there)

pub overflow_add-self-inside : goal.overflow_add-self-inside
overflow_add-self-inside c =
    let size = sizes c.self.inside c.self.invariant in
    let there = rw (← c.self.view_is) at c.requires in
    let inside : c.args.procedure < length c.self.inside.bodies.items = omega (arith, size.counted, there) in
    let found = slice_get_read c.self.inside.bodies.items _ c.args.procedure _ c.self.inside.bodies.ok.0 (omega (arith, inside, c.self.inside.bodies.ok.0)) c.index-body.ensures in
    let shows = reads_body c.self.inside c.args.procedure c.index-body.result.now c.self.invariant found in
    omega (arith, shows.within, size.items, size.item_room)

pub piece-requires : goal.piece-requires
piece-requires c =
    let size = sizes c.self.inside c.self.invariant in
    let there = rw (← c.self.view_is) at c.requires in
    let inside : c.args.procedure < length c.self.inside.bodies.items = omega (arith, size.counted, there) in
    let found = slice_get_read c.self.inside.bodies.items _ c.args.procedure _ c.self.inside.bodies.ok.0 (omega (arith, inside, c.self.inside.bodies.ok.0)) c.index-body.ensures in
    let shows = reads_body c.self.inside c.args.procedure c.index-body.result.now c.self.invariant found in
    rw c.deref.ensures.value shows.within

pub returns : goal.returns
returns c =
    let size = sizes c.self.inside c.self.invariant in
    let there = rw (← c.self.view_is) at c.requires in
    let inside : c.args.procedure < length c.self.inside.bodies.items = omega (arith, size.counted, there) in
    let found = slice_get_read c.self.inside.bodies.items _ c.args.procedure _ c.self.inside.bodies.ok.0 (omega (arith, inside, c.self.inside.bodies.ok.0)) c.index-body.ensures in
    let shows = reads_body c.self.inside c.args.procedure c.index-body.result.now c.self.invariant found in
    c.piece.ensures ∙ ap (λ is. take c.index-body.result.now.length (drop (c.self.inside.blocks_end + c.index-body.result.now.start) is)) c.deref.ensures.value
    ∙ shows.slice ∙ rw (← c.self.view_is) (sym (ap procedure_body shows.is))
