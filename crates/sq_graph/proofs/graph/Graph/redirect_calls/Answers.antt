use Rattle.std.proofs.Common.{refl, sym, ap, ◌∙◌, length, arith}
use Rattle.std.proofs.lemmas.List.{length-map}
use Rattle.std.proofs.lemmas.List.{map-id}
use Rattle.sq_graph.specs.declared.graph.Graph.TheInside.{Inside}
use Rattle.sq_graph.specs.Layout.{graph_of}
use Rattle.sq_graph.specs.Operations.{redirected_calls}
use Rattle.sq_graph.specs.Renames.{recalled_item, swapped}
use Rattle.sq_graph.proofs.Sizes.{same_room}
use Rattle.sq_graph.proofs.MapWrites.{mapped_shows}
use Rattle.sq_graph.proofs.Tight.{closed}
use Rattle.sq_graph.proofs.graph.Graph.redirect_calls.Goals as goal

pub invariant_of-self : goal.invariant_of-self
invariant_of-self c =
    let now : Inside = record c.self.inside { slots = c.close_gaps.new.slots; items = c.close_gaps.new.items; blocks_end = c.close_gaps.new.blocks_end; gaps = c.close_gaps.new.gaps; loose = c.close_gaps.new.loose } in
    let t = closed c.self.view_is c.self.invariant c.close_gaps.ensures.kept c.close_gaps.ensures.gaps c.close_gaps.ensures.order in
    let new : Inside = record now { items = c.recall_items.new.items } in
    (mapped_shows (recalled_item (swapped c.args.from c.args.to)) (λ term. term) _ new (redirected_calls (graph_of now) c.args.from c.args.to) t.tight
    (sym (map-id c.close_gaps.new.slots.entries)) refl c.recall_items.ensures.items c.recall_items.ensures.capacity refl refl refl refl refl refl refl refl
    refl refl (rw (← t.view_is) at c.requires.rules)).sound

pub returns-clause-graph : goal.returns-clause-graph
returns-clause-graph c =
    let now : Inside = record c.self.inside { slots = c.close_gaps.new.slots; items = c.close_gaps.new.items; blocks_end = c.close_gaps.new.blocks_end; gaps = c.close_gaps.new.gaps; loose = c.close_gaps.new.loose } in
    let t = closed c.self.view_is c.self.invariant c.close_gaps.ensures.kept c.close_gaps.ensures.gaps c.close_gaps.ensures.order in
    let new : Inside = record now { items = c.recall_items.new.items } in
    (mapped_shows (recalled_item (swapped c.args.from c.args.to)) (λ term. term) _ new (redirected_calls (graph_of now) c.args.from c.args.to) t.tight
    (sym (map-id c.close_gaps.new.slots.entries)) refl c.recall_items.ensures.items c.recall_items.ensures.capacity refl refl refl refl refl refl refl refl
    refl refl (rw (← t.view_is) at c.requires.rules)).is
    ∙ ap (λ v. redirected_calls v.graph c.args.from c.args.to) t.view_is

pub returns-clause-spare : goal.returns-clause-spare
returns-clause-spare c =
    let t = closed c.self.view_is c.self.invariant c.close_gaps.ensures.kept c.close_gaps.ensures.gaps c.close_gaps.ensures.order in
    same_room _ _ refl (omega (arith, ap (λ xs. length xs) c.recall_items.ensures.items, length-map c.close_gaps.new.items.items (recalled_item (swapped c.args.from c.args.to)))) refl
    ∙ ap (λ v. v.spare) t.view_is
