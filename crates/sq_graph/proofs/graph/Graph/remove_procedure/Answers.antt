use Rattle.std.proofs.Common.{◌∙◌, ◌+◌, ◌<◌, length, ap, refl, arith}
use Rattle.std.proofs.lemmas.Option.{slice_get_read}
use Rattle.sq_graph.specs.Blocks.{body_of}
use Rattle.sq_graph.specs.Operations.{without_procedure}
use Rattle.sq_graph.proofs.BodyReads.{reads_body}
use Rattle.sq_graph.proofs.Sizes.{sizes, same_room}
use Rattle.sq_graph.proofs.ProcedureRemoval.{bodies_at, lowers_fit, without_procedure_shows, frees_procedure}
use Rattle.sq_graph.proofs.Tight.{closed}
use Rattle.sq_graph.proofs.graph.Graph.remove_procedure.Goals as goal

pub remove-body-requires : goal.remove-body-requires
remove-body-requires c =
    let t = closed c.self.view_is c.self.invariant c.close_gaps.ensures.kept c.close_gaps.ensures.gaps c.close_gaps.ensures.order in
    omega (arith, (sizes _ t.tight.sound).counted, rw (← t.view_is) at c.requires.procedure, c.self.inside.bodies.ok.0)

pub overflow_add-from : goal.overflow_add-from
overflow_add-from c =
    let t = closed c.self.view_is c.self.invariant c.close_gaps.ensures.kept c.close_gaps.ensures.gaps c.close_gaps.ensures.order in
    let there : c.args.procedure < length c.self.inside.bodies.items = omega (arith, (sizes _ t.tight.sound).counted, rw (← t.view_is) at c.requires.procedure) in
    let found = slice_get_read c.self.inside.bodies.items _ c.args.procedure c.remove-body.result c.self.inside.bodies.ok.0 (omega (arith, there, c.self.inside.bodies.ok.0)) c.remove-body.ensures.value in
    let size = sizes _ t.tight.sound in
    omega (arith, (reads_body _ c.args.procedure c.remove-body.result t.tight.sound found).within, size.items, size.item_room)

pub cut-requires : goal.cut-requires
cut-requires c =
    let t = closed c.self.view_is c.self.invariant c.close_gaps.ensures.kept c.close_gaps.ensures.gaps c.close_gaps.ensures.order in
    let there : c.args.procedure < length c.self.inside.bodies.items = omega (arith, (sizes _ t.tight.sound).counted, rw (← t.view_is) at c.requires.procedure) in
    let found = slice_get_read c.self.inside.bodies.items _ c.args.procedure c.remove-body.result c.self.inside.bodies.ok.0 (omega (arith, there, c.self.inside.bodies.ok.0)) c.remove-body.ensures.value in
    omega (arith, (reads_body _ c.args.procedure c.remove-body.result t.tight.sound found).within, c.close_gaps.new.items.ok.0)

pub lower_starts-requires-clause-fits : goal.lower_starts-requires-clause-fits
lower_starts-requires-clause-fits c =
    let t = closed c.self.view_is c.self.invariant c.close_gaps.ensures.kept c.close_gaps.ensures.gaps c.close_gaps.ensures.order in
    let there : c.args.procedure < length c.self.inside.bodies.items = omega (arith, (sizes _ t.tight.sound).counted, rw (← t.view_is) at c.requires.procedure) in
    let found = slice_get_read c.self.inside.bodies.items _ c.args.procedure c.remove-body.result c.self.inside.bodies.ok.0 (omega (arith, there, c.self.inside.bodies.ok.0)) c.remove-body.ensures.value in
    lowers_fit _ c.args.procedure c.remove-body.result _ (bodies_at _ c.args.procedure c.remove-body.result t.tight found) c.remove-body.ensures.items

pub invariant_of-self : goal.invariant_of-self
invariant_of-self c =
    let t = closed c.self.view_is c.self.invariant c.close_gaps.ensures.kept c.close_gaps.ensures.gaps c.close_gaps.ensures.order in
    let there : c.args.procedure < length c.self.inside.bodies.items = omega (arith, (sizes _ t.tight.sound).counted, rw (← t.view_is) at c.requires.procedure) in
    let found = slice_get_read c.self.inside.bodies.items _ c.args.procedure c.remove-body.result c.self.inside.bodies.ok.0 (omega (arith, there, c.self.inside.bodies.ok.0)) c.remove-body.ensures.value in
    (without_procedure_shows _ c.args.procedure c.remove-body.result _ c.cut.new.items c.recall_items.new.items c.lower_starts.new.bodies t.tight found c.remove-body.ensures.items c.lower_starts.ensures.items (c.lower_starts.ensures.capacity ∙ c.remove-body.ensures.capacity) c.cut.ensures.items c.cut.ensures.capacity c.recall_items.ensures.items c.recall_items.ensures.capacity (rw (← t.view_is) at c.requires.rules)).sound

pub returns-clause-graph : goal.returns-clause-graph
returns-clause-graph c =
    let t = closed c.self.view_is c.self.invariant c.close_gaps.ensures.kept c.close_gaps.ensures.gaps c.close_gaps.ensures.order in
    let there : c.args.procedure < length c.self.inside.bodies.items = omega (arith, (sizes _ t.tight.sound).counted, rw (← t.view_is) at c.requires.procedure) in
    let found = slice_get_read c.self.inside.bodies.items _ c.args.procedure c.remove-body.result c.self.inside.bodies.ok.0 (omega (arith, there, c.self.inside.bodies.ok.0)) c.remove-body.ensures.value in
    (without_procedure_shows _ c.args.procedure c.remove-body.result _ c.cut.new.items c.recall_items.new.items c.lower_starts.new.bodies t.tight found c.remove-body.ensures.items c.lower_starts.ensures.items (c.lower_starts.ensures.capacity ∙ c.remove-body.ensures.capacity) c.cut.ensures.items c.cut.ensures.capacity c.recall_items.ensures.items c.recall_items.ensures.capacity (rw (← t.view_is) at c.requires.rules)).is
    ∙ ap (λ v. without_procedure v.graph c.args.procedure) t.view_is

pub returns-clause-spare : goal.returns-clause-spare
returns-clause-spare c =
    let t = closed c.self.view_is c.self.invariant c.close_gaps.ensures.kept c.close_gaps.ensures.gaps c.close_gaps.ensures.order in
    let there : c.args.procedure < length c.self.inside.bodies.items = omega (arith, (sizes _ t.tight.sound).counted, rw (← t.view_is) at c.requires.procedure) in
    let found = slice_get_read c.self.inside.bodies.items _ c.args.procedure c.remove-body.result c.self.inside.bodies.ok.0 (omega (arith, there, c.self.inside.bodies.ok.0)) c.remove-body.ensures.value in
    let frees = frees_procedure _ c.args.procedure c.remove-body.result _ _ c.recall_items.new.items.items c.lower_starts.new.bodies.items t.tight found there c.remove-body.ensures.items c.lower_starts.ensures.items c.cut.ensures.items c.recall_items.ensures.items in
    same_room _ _ refl frees.items_spare frees.bodies_spare
    ∙ ap (λ v. record v.spare { items = v.spare.items + length (body_of v.graph c.args.procedure); procedures = v.spare.procedures + 1 }) t.view_is
