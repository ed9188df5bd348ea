use Rattle.std.proofs.Common.{Some, ◌∙◌, ◌<◌, length, ap, sym, arith}
use Rattle.std.proofs.lemmas.Option.{slice_get_read}
use Rattle.sq_graph.specs.Blocks.{procedure_link}
use Rattle.sq_graph.proofs.BodyReads.{reads_body}
use Rattle.sq_graph.proofs.Sizes.{sizes}
use Rattle.sq_graph.proofs.graph.Graph.link.Goals as goal

pub index-requires : goal.index-requires
index-requires c =
    let size = sizes c.self.inside c.self.invariant in
    let there = rw (← c.self.view_is) at c.requires in
    omega (arith, size.counted, c.self.inside.bodies.ok.0, there)

pub returns : goal.returns
returns c =
    let size = sizes c.self.inside c.self.invariant in
    let there = rw (← c.self.view_is) at c.requires in
    let inside : c.args.procedure < length c.self.inside.bodies.items = omega (arith, size.counted, there) in
    let found = slice_get_read c.self.inside.bodies.items _ c.args.procedure _ c.self.inside.bodies.ok.0 (omega (arith, inside, c.self.inside.bodies.ok.0)) c.index.ensures in
    let shows = reads_body c.self.inside c.args.procedure c.index.result.now c.self.invariant found in
    rw (← c.self.view_is) (ap procedure_link shows.is ∙ ap Some (sym shows.link_is))
